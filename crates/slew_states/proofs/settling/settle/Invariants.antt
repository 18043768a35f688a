use Rattle.slew_states.proofs.NetPass.{IsSettling}
use Rattle.slew_states.proofs.settling.settle.Given as goal

abbrev pub invariant-loop-place : goal.invariant-loop-place
invariant-loop-place g l = IsSettling (g.T.Timing.looks l.timing) (g.T.Timing.wires l.timing) l.arcs l.drivers l.slew l.order l.states.items l.place l.fn.steps l.steps
