use Rattle.std.proofs.Common.{◌≡◌, ◌+◌, ◌*◌, ◌≤◌, length}
use Rattle.slew_order.specs.NetStates.{AreStatesTo, edges_in}
use Rattle.slew_order.proofs.net_states.settle_corners.Given as goal

abbrev pub invariant-loop-number : goal.invariant-loop-number
invariant-loop-number g l = record {
  len : length l.corners.items ≡ l.number;
  states : AreStatesTo l.design l.number l.corners.items;
  steps : l.steps ≤ l.fn.steps + 64 * (l.number * edges_in l.design);
}
