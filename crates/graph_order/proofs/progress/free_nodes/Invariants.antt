use Rattle.graph_order.specs.Progress.{AreFree}
use Rattle.graph_order.proofs.progress.free_nodes.Given as goal

abbrev pub invariant-loop-node : goal.invariant-loop-node
invariant-loop-node l = AreFree l.node l.order.items l.waits
