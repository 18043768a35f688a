use Rattle.std.proofs.Common.{arith}
use Rattle.slew_order.proofs.net_states.settle_corners.Goals as goal

-- src/net_states.rt
pub returns-clause-states : goal.returns-clause-states
returns-clause-states g c = record {
  len = omega (arith, c.loop-number.invariant.len, c.loop-number-test.false, c.loop-number.auto.number-end, c.corner_count-number-end.ensures.count);
  each = λ corner below. c.loop-number.invariant.states corner (omega (arith, below, c.loop-number-test.false, c.corner_count-number-end.ensures.count));
}
