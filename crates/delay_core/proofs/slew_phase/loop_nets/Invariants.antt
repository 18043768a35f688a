use Rattle.std.proofs.Common.{◌≡◌, map, take}
use Rattle.delay_core.specs.SlewPhase.{related_text}
use Rattle.delay_core.proofs.slew_phase.loop_nets.Given as goal

abbrev pub invariant-loop-place : goal.invariant-loop-place
invariant-loop-place g l = l.nets ≡ map (related_text l.linked.netlist l.linked.cells) (take l.place l.cycle)
