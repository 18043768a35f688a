use Rattle.std.proofs.Common.{◌<◌, ◌∙◌, arith}
use Rattle.net_parasitics.proofs.NetPuts.{has_net, after_load, no_loads, one_load, HaveCorners}
use Rattle.net_parasitics.proofs.inputs.NetInputs.put_own_load.Goals as goal

-- src/net_times.rt
pub loop-number-init : goal.loop-number-init
loop-number-init g c = no_loads c.args.self.now g.C.CornerSet.COUNT c.args.delays.now c.args.net

pub set_load-requires : goal.set_load-requires
set_load-requires g c = has_net c.loop-number.delays c.args.delays.now c.args.net c.loop-number.invariant.kept.starts c.requires.held

pub loop-number-preserved : goal.loop-number-preserved
loop-number-preserved g c =
    let number = g.C.CornerSet.number_of in
    let there : HaveCorners g.row.C-Index.Denot number g.C.CornerSet.COUNT = λ n below. (let law = g.met.C.CornerSet.number_of_corner n below in (law.0, law.2)) in
    let below : c.loop-number.number < g.C.CornerSet.COUNT = omega (arith, c.loop-number-test.true, c.COUNT-number-end.ensures) in
    one_load c.args.self.now g.C.CornerSet.COUNT c.args.delays.now c.loop-number.delays c.set_load.new.self c.args.net (number c.corner_at-corner.result) c.loop-number.number
    c.corner_at-corner.ensures below c.requires.held (c.set_load.ensures.held ∙ c.load_sum.ensures) c.set_load.ensures.elmores
    (after_load g.row.C-Index.Denot number g.C.CornerSet.COUNT there c.loop-number.delays c.set_load.new.self c.args.net c.corner_at-corner.result c.set_load.ensures.starts c.set_load.ensures.elmores c.set_load.ensures.others)
    c.loop-number.invariant

pub returns-clause-load : goal.returns-clause-load
returns-clause-load g c = λ corner below. c.loop-number.invariant.loads corner (omega (arith, below, c.loop-number-test.false, c.COUNT-number-end.ensures))

pub returns-clause-elmores : goal.returns-clause-elmores
returns-clause-elmores g c = c.loop-number.invariant.elmores

pub returns-clause-others : goal.returns-clause-others
returns-clause-others g c = c.loop-number.invariant.kept
