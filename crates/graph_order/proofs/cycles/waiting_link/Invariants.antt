use Rattle.std.proofs.Common.{◌≡◌, ℕ, ◌<◌}
use Rattle.graph_order.specs.Progress.{wait_of}
use Rattle.graph_order.proofs.cycles.waiting_link.Given as goal

abbrev pub invariant-loop-node : goal.invariant-loop-node
invariant-loop-node l = (node : ℕ) → node < l.node → wait_of l.waits node ≡ 0
