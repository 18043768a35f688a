use Rattle.slew_order.specs.SlewEnds.{NoLimitOf}
use Rattle.slew_order.proofs.Refusing.{to_more}
use Rattle.slew_order.proofs.limits.limit_of_net.Goals as goal

-- src/limits.rt
pub loop-sink-preserved : goal.loop-sink-preserved
loop-sink-preserved g c = to_more (NoLimitOf c.args.design.now c.args.net) c.loop-sink.sink c.loop-sink.invariant c.in_default.ensures.none
