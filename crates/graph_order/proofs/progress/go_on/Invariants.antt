use Rattle.std.proofs.Common.{◌≡◌}
use Rattle.graph_order.specs.Fans.{links_to}
use Rattle.graph_order.specs.Progress.{IsEarlier}
use Rattle.graph_order.proofs.progress.go_on.Given as goal

abbrev pub invariant-loop-next : goal.invariant-loop-next
invariant-loop-next l = record {
  earlier : IsEarlier l.sources l.targets l.fn.progress.waits.items l.link l.next;
  waits : l.progress.waits.items ≡ l.fn.progress.waits.items;
  order : l.progress.order.items ≡ l.fn.progress.order.items;
}

abbrev pub decreases-loop-next : goal.decreases-loop-next
decreases-loop-next l = links_to l.next
