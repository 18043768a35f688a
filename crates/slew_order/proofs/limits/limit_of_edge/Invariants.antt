use Rattle.slew_order.specs.SlewEnds.{NoLimitTo}
use Rattle.slew_order.proofs.limits.limit_of_edge.Given as goal

abbrev pub invariant-loop-number : goal.invariant-loop-number
invariant-loop-number g l = NoLimitTo l.design l.net l.sink l.edge l.number
