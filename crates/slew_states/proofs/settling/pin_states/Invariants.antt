use Rattle.graph_order.specs.Fans.{links_to}
use Rattle.slew_states.proofs.Joins.{IsJoining}
use Rattle.slew_states.proofs.settling.pin_states.Given as goal

abbrev pub invariant-loop-cursor : goal.invariant-loop-cursor
invariant-loop-cursor g l = IsJoining (g.T.Timing.looks l.timing) (g.T.Timing.wires l.timing) l.states l.arcs l.net l.cursor l.joined l.fn.steps l.steps

abbrev pub decreases-loop-cursor : goal.decreases-loop-cursor
decreases-loop-cursor g l = links_to l.cursor
