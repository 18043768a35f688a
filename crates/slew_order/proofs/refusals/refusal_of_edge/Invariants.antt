use Rattle.std.proofs.Common.{◌+◌, ◌*◌, ◌≤◌, if◌then◌else◌}
use Rattle.slew_states.specs.Arcs.{arc_at, has_edge}
use Rattle.slew_order.specs.SlewEnds.{NoRefusalTo}
use Rattle.slew_order.specs.Timings.{flat_in}
use Rattle.slew_order.proofs.refusals.refusal_of_edge.Given as goal

abbrev pub invariant-loop-number : goal.invariant-loop-number
invariant-loop-number g l = record {
  none : NoRefusalTo l.design l.arc l.edge l.number;
  steps : l.steps ≤ l.fn.steps + 64 * (l.number * (if has_edge (arc_at (flat_in l.design) l.arc) l.edge then 1 else 0));
}
