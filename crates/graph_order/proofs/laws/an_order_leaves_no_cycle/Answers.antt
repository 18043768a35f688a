use Rattle.graph_order.proofs.Orders.{order_law}
use Rattle.graph_order.proofs.laws.an_order_leaves_no_cycle.Goals as goal

-- src/laws.rt
pub returns : goal.returns
returns c = order_law
