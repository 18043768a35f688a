use Rattle.std.proofs.Common.{map, ap, ◌∙◌, arith}
use Rattle.std.proofs.lemmas.List.{take_all}
use Rattle.net_parasitics.proofs.Lists.{mapped_more}
use Rattle.delay_core.specs.SlewPhase.{related_text}
use Rattle.delay_core.proofs.slew_phase.loop_nets.Goals as goal

-- src/slew_phase.rt
pub loop-place-preserved : goal.loop-place-preserved
loop-place-preserved g c = mapped_more (related_text c.args.linked.now.netlist c.args.linked.now.cells) c.args.cycle.now c.loop-place.place c.get.result
    c.loop-place.nets c.push.new.self c.in_ok-net.net c.get.ensures c.loop-place.invariant c.in_ok-net.ensures c.in_ok-push.ensures.ok

pub returns : goal.returns
returns g c =
    c.loop-place.invariant
    ∙ ap (map (related_text c.args.linked.now.netlist c.args.linked.now.cells)) (take_all c.loop-place.place c.args.cycle.now (omega (arith, c.len-place-end.ensures, c.loop-place-test.false)))
