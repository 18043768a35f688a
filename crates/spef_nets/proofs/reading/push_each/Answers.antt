use Rattle.std.proofs.Common.{◌≡◌, length, arith}
use Rattle.spef_nets.specs.Drafts.{corners_of}
use Rattle.spef_nets.proofs.ReadingLemmas.{no_nets, one_more, all_nets, all_faultless}
use Rattle.spef_nets.proofs.reading.push_each.Goals as goal

pub loop-init : goal.loop-init
loop-init g c = (
  no_nets (corners_of g.C.CornerSet.COUNT g.C.CornerSet.number_of g.C.CornerSet.member_of c.args.source.now.pick) c.args.source.now.file.now c.args.source.now.head.now c.requires.head c.args.nets.now c.args.tables.now c.requires.nets c.requires.nodes c.requires.rows c.requires.ends,
  c.requires.file,
)

pub loop-preserved : goal.loop-preserved
loop-preserved g c =
    let (net, is, grows) = c.in_ok-push_next.ensures.next in (
      one_more (corners_of g.C.CornerSet.COUNT g.C.CornerSet.number_of g.C.CornerSet.member_of c.args.source.now.pick) c.args.source.now.file.now c.args.source.now.head.now c.loop.nets c.loop.tables c.loop.counter c.loop.invariant.0 c.push_next.new.nets c.push_next.new.tables net is grows
          c.in_ok-push_next.ensures.held c.in_ok-push_next.ensures.reading,
      c.in_ok-push_next.ensures.file,
    )

pub returns-clause-ok : goal.returns-clause-ok
returns-clause-ok g c =
    let whole : c.loop.counter ≡ length c.args.source.now.file.now.reading.sections = omega arith in
    all_nets (corners_of g.C.CornerSet.COUNT g.C.CornerSet.number_of g.C.CornerSet.member_of c.args.source.now.pick) c.args.source.now.file.now c.args.source.now.head.now c.loop.nets c.loop.tables c.loop.counter c.loop.invariant.0 whole

pub returns-clause-faultless : goal.returns-clause-faultless
returns-clause-faultless g c =
    let whole : c.loop.counter ≡ length c.args.source.now.file.now.reading.sections = omega arith in
    all_faultless (corners_of g.C.CornerSet.COUNT g.C.CornerSet.number_of g.C.CornerSet.member_of c.args.source.now.pick) c.args.source.now.file.now c.args.source.now.head.now c.loop.nets c.loop.tables c.loop.counter c.loop.invariant.0 whole
