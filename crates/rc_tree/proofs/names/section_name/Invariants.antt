use Rattle.std.proofs.Common.{◌≡◌, ℕ, ◌<◌, slice_index}
use Rattle.rc_tree.proofs.names.section_name.Given as goal

-- no place so far has the number
abbrev pub invariant-loop-place : goal.invariant-loop-place
invariant-loop-place g l = (k : ℕ) → k < l.place → slice_index l.numbered.spots.items k ≡ l.number → ⊥
