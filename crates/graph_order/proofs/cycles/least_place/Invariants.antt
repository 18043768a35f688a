use Rattle.std.proofs.Common.{ℕ, ◌<◌, ◌≤◌, length, slice_index}
use Rattle.graph_order.proofs.cycles.least_place.Given as goal

abbrev pub invariant-loop-place : goal.invariant-loop-place
invariant-loop-place l = record {
  within : l.least < length l.cycle;
  least : (place : ℕ) → place < l.place → slice_index l.sources (slice_index l.cycle l.least) ≤ slice_index l.sources (slice_index l.cycle place);
}
