use Rattle.std.proofs.Common.{◌≡◌, ap, ◌∙◌, subst, arith, length, take}
use Rattle.std.specs.Prelude.{List, [], ◌∷◌, ◌++◌}
use Rattle.spef_nets.specs.declared.parts.Joined.{Joined}
use Rattle.std.proofs.Math.Seq.{take-length}
use Rattle.spef_text.specs.Entries.{section_at}
use Rattle.spef_text.specs.declared.entries.Res.{Res}
use Rattle.spef_nets.specs.Refs.{AreRefs, res_keys}
use Rattle.spef_nets.specs.RefsOf.{refs_of}
use Rattle.spef_nets.specs.Drafts.{AllJoined}
use Rattle.spef_nets.proofs.Referring.{joined_more, joins_at, none_joined}
use Rattle.spef_nets.proofs.source.Source.read_joints.Goals as goal

pub loop-i-init : goal.loop-i-init
loop-i-init c =
    none_joined c.args.self.now.file.now c.args.net.now (refs_of c.args.refs.now) (section_at c.args.self.now.file.now.reading.sections c.args.s).ress c.reserve.new.self.items c.requires.refs (c.reserve.ensures.items ∙ c.clear.ensures.items)

pub joined_at-requires-in-loop-i-clause-refs : goal.joined_at-requires-in-loop-i-clause-refs
joined_at-requires-in-loop-i-clause-refs c =
    let first = joins_at c.args.self.now.file.now c.args.net.now [] _ c.res-res.result.first (refs_of c.loop-i.refs) (refs_of c.joined_at.new.refs) c.in_ok-first.first c.loop-i.invariant.are c.in_ok-first.ensures in
    ([], _, first.are)

pub loop-i-preserved : goal.loop-i-preserved
loop-i-preserved c =
    joined_more c.args.self.now.file.now c.args.net.now (refs_of c.args.refs.now) (refs_of c.loop-i.refs) (refs_of c.joined_at.new.refs) (refs_of c.joined_at-in-loop-i.new.refs)
    (section_at c.args.self.now.file.now.reading.sections c.args.s).ress c.loop-i.joints.items c.push.new.items.items c.loop-i.i c.res-res.result c.in_ok-first.first c.in_ok-second.second
    c.res-res.ensures c.loop-i.invariant c.in_ok-first.ensures c.in_ok-second.ensures (c.in_ok-push.ensures.ok ∙ ap (λ (j : Joined). c.loop-i.joints.items ++ j ∷ []) c.in_ok-of.ensures)

pub returns : goal.returns
returns c =
    let ress = (section_at c.args.self.now.file.now.reading.sections c.args.s).ress in
    let whole : take c.loop-i.i ress ≡ ress = (let e : c.loop-i.i ≡ length ress = omega arith in ap (λ n. take n ress) e ∙ take-length ress) in
    record {
      joints = subst (λ (l : List Res). AllJoined c.args.self.now.file.now (refs_of c.loop-i.refs).words l c.loop-i.joints.items) whole c.loop-i.invariant.known;
      refs = subst (λ (l : List Res). AreRefs c.args.self.now.file.now c.args.net.now [] (res_keys c.args.self.now.file.now l) (refs_of c.loop-i.refs)) whole c.loop-i.invariant.are;
      count = c.loop-i.invariant.count ∙ (let e : c.loop-i.i ≡ length ress = omega arith in e);
      nodes = c.loop-i.invariant.nodes;
    }
