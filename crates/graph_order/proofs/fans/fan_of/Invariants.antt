use Rattle.graph_order.proofs.Chains.{Chaining}
use Rattle.graph_order.proofs.fans.fan_of.Given as goal

abbrev pub invariant-loop-link : goal.invariant-loop-link
invariant-loop-link l = Chaining l.keys l.nodes l.last.items l.previous.items l.link
