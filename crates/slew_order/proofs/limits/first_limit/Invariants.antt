use Rattle.slew_order.specs.SlewEnds.{NoLimits}
use Rattle.slew_order.proofs.limits.first_limit.Given as goal

abbrev pub invariant-loop-net : goal.invariant-loop-net
invariant-loop-net g l = NoLimits l.design l.net
