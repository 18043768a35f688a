use Rattle.std.proofs.Common.{arith}
use Rattle.slew_order.specs.SlewEnds.{NoLimitAt}
use Rattle.slew_order.proofs.Refusing.{to_more}
use Rattle.slew_order.proofs.limits.limit_of_edge.Goals as goal

-- src/limits.rt
pub loop-number-preserved : goal.loop-number-preserved
loop-number-preserved g c = to_more (NoLimitAt c.args.design.now c.args.net c.args.sink c.args.edge) c.loop-number.number c.loop-number.invariant c.in_default.ensures.none

pub returns-clause-none : goal.returns-clause-none
returns-clause-none g c = λ corner below. c.loop-number.invariant corner (omega (arith, below, c.loop-number-test.false, c.corner_count-number-end.ensures.count))
