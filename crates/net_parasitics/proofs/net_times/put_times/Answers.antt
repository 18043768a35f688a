use Rattle.std.proofs.Common.{◌≡◌, ◌*◌, ◌<◌, length, ap, arith}
use Rattle.net_parasitics.proofs.NetPuts.{has_net, has_sink, no_corners, one_corner, next_times}
use Rattle.net_parasitics.proofs.net_times.put_times.Goals as goal

-- src/net_times.rt
pub loop-number-init : goal.loop-number-init
loop-number-init g c = (no_corners g.C.CornerSet.COUNT c.args.tree.now c.args.delays.now c.args.net, omega arith)

pub put_times_at-requires-clause-net : goal.put_times_at-requires-clause-net
put_times_at-requires-clause-net g c = has_net c.loop-number.delays c.args.delays.now c.args.net c.loop-number.invariant.0.kept.starts c.requires.net

pub put_times_at-requires-clause-sinks : goal.put_times_at-requires-clause-sinks
put_times_at-requires-clause-sinks g c = λ sink within. has_sink c.loop-number.delays c.args.delays.now c.args.net sink c.loop-number.invariant.0.kept.starts (c.requires.sinks sink within)

pub loop-number-preserved : goal.loop-number-preserved
loop-number-preserved g c =
    let below : c.loop-number.number < g.C.CornerSet.COUNT = omega (arith, c.loop-number-test.true, c.COUNT-number-end.ensures) in (
      one_corner g.C.CornerSet.COUNT c.args.tree.now c.args.delays.now c.loop-number.delays c.put_times_at.new.delays c.args.net (g.C.CornerSet.number_of c.corner_at-corner.result) c.loop-number.number
          c.corner_at-corner.ensures below c.requires.net c.requires.sinks c.put_times_at.ensures.times c.put_times_at.ensures.others c.loop-number.invariant.0,
      (let steps = c.loop-number.invariant.1 in let more = next_times c.loop-number.number (length c.args.tree.now.sinks) in omega (arith, steps, more, c.put_times_at.ensures.steps)),
    )

pub returns-clause-times : goal.returns-clause-times
returns-clause-times g c = λ corner below. c.loop-number.invariant.0.times corner (omega (arith, below, c.loop-number-test.false, c.COUNT-number-end.ensures))

pub returns-clause-others : goal.returns-clause-others
returns-clause-others g c = c.loop-number.invariant.0.kept

pub returns-clause-steps : goal.returns-clause-steps
returns-clause-steps g c =
    let all : c.loop-number.number ≡ g.C.CornerSet.COUNT = omega (arith, c.loop-number-test.false, c.loop-number.auto.number-end, c.COUNT-number-end.ensures) in
    let same = ap (λ k. k * length c.args.tree.now.sinks) all in
    let steps = c.loop-number.invariant.1 in omega (arith, steps, same)
