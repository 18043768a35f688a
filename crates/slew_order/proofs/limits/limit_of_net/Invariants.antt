use Rattle.slew_order.specs.SlewEnds.{NoLimitOn}
use Rattle.slew_order.proofs.limits.limit_of_net.Given as goal

abbrev pub invariant-loop-sink : goal.invariant-loop-sink
invariant-loop-sink g l = NoLimitOn l.design l.net l.sink
