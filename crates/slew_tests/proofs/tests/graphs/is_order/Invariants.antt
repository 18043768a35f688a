use Rattle.std.proofs.Common.{◌≡◌, length}
use Rattle.slew_tests.proofs.tests.graphs.is_order.Given as goal

abbrev pub invariant-loop-place : goal.invariant-loop-place
invariant-loop-place l = length l.places.items ≡ l.nodes
