use Rattle.std.proofs.Common.{◌≡◌, ℕ, ◌-◌, ◌<◌, length, slice_index}
use Rattle.rc_tree.proofs.laying.put_places.Given as goal

-- the places so far
abbrev pub invariant-loop-k : goal.invariant-loop-k
invariant-loop-k l = record {
  size : length l.places.items ≡ l.k;
  places : (i : ℕ) → i < l.k → slice_index l.places.items i ≡ slice_index l.numbers (slice_index l.nodes i) - 1;
}
