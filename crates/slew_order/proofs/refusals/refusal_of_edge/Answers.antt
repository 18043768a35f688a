use Rattle.std.proofs.Common.{arith}
use Rattle.slew_order.specs.SlewEnds.{NoRefusalAt}
use Rattle.slew_order.proofs.Refusing.{to_more}
use Rattle.slew_order.proofs.Settling.{steps_more}
use Rattle.slew_order.proofs.refusals.refusal_of_edge.Goals as goal

-- src/refusals.rt
pub loop-number-preserved : goal.loop-number-preserved
loop-number-preserved g c = record {
  none = to_more (NoRefusalAt c.args.design.now c.args.arc c.args.edge) c.loop-number.number c.loop-number.invariant.none c.in_default.ensures.none;
  steps = steps_more 64 c.loop-number.number _ _ _ _ c.loop-number.invariant.steps c.refusal_at.ensures.steps;
}

pub returns-clause-none : goal.returns-clause-none
returns-clause-none g c = λ corner below. c.loop-number.invariant.none corner (omega (arith, below, c.loop-number-test.false, c.corner_count-number-end.ensures.count))
