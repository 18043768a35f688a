use Rattle.std.proofs.Common.{ℕ, ◌<◌, slice_index}
use Rattle.rc_tree.proofs.laying.first_zero.Given as goal

-- none so far
abbrev pub invariant-loop-place : goal.invariant-loop-place
invariant-loop-place l = (k : ℕ) → k < l.place → 0 < slice_index l.values k
