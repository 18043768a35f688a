use Rattle.graph_order.specs.Progress.{IsWaiting, ArePassed}
use Rattle.graph_order.proofs.progress.pass_nodes.Given as goal

abbrev pub invariant-loop-head : goal.invariant-loop-head
invariant-loop-head l = record {
  waiting : IsWaiting l.nodes l.sources l.targets l.progress.order.items l.progress.waits.items;
  passed : ArePassed l.sources l.targets l.progress.order.items l.progress.waits.items l.head;
}
