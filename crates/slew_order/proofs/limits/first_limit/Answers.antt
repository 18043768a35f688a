use Rattle.std.proofs.Common.{length}
use Rattle.netlist_link.specs.FlatNetlist.{net_at}
use Rattle.slew_order.specs.SlewEnds.{NoLimitOn}
use Rattle.slew_order.proofs.Limiting.{limit_small}
use Rattle.slew_order.proofs.Refusing.{to_more}
use Rattle.slew_order.proofs.limits.first_limit.Goals as goal

-- src/limits.rt
pub loop-net-preserved : goal.loop-net-preserved
loop-net-preserved g c = to_more (λ net. NoLimitOn c.args.design.now net (length (net_at c.args.design.now.netlist net).sinks)) c.loop-net.net c.loop-net.invariant c.in_default.ensures.none

pub returns-in-Some-clause-small : goal.returns-in-Some-clause-small
returns-in-Some-clause-small g c = limit_small c.args.design.now _ c.loop-net.net c.in-Some.limit.sink c.in-Some.limit.edge c.in-Some.limit.corner c.in-Some.limit.slew c.requires.states
    c.in-Some.ensures.first.limit
