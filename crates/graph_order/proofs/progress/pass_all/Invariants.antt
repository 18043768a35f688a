use Rattle.std.proofs.Common.{length, slice_index}
use Rattle.graph_order.specs.Fans.{links_to}
use Rattle.graph_order.proofs.Waiting.{PassingAll}
use Rattle.graph_order.proofs.progress.pass_all.Given as goal

abbrev pub invariant-loop-cursor : goal.invariant-loop-cursor
invariant-loop-cursor l = PassingAll (length l.fn.progress.waits.items) l.sources l.targets l.fn.progress.order.items l.fn.progress.waits.items
    l.progress.order.items l.progress.waits.items (slice_index l.fn.progress.order.items l.head) l.cursor

abbrev pub decreases-loop-cursor : goal.decreases-loop-cursor
decreases-loop-cursor l = links_to l.cursor
