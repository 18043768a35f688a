use Rattle.std.proofs.Common.{◌+◌, ◌*◌, ◌≤◌, take}
use Rattle.slew_states.specs.Settled.{arc_edges}
use Rattle.slew_order.specs.SlewEnds.{NoRefusals}
use Rattle.slew_order.specs.Timings.{flat_in}
use Rattle.slew_order.proofs.refusals.first_refusal.Given as goal

abbrev pub invariant-loop-arc : goal.invariant-loop-arc
invariant-loop-arc g l = record {
  none : NoRefusals l.design l.arc;
  steps : l.steps ≤ l.fn.steps + 64 * (l.design.count * arc_edges (take l.arc (flat_in l.design)));
}
