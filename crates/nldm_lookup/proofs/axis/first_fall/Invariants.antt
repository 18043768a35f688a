use Rattle.std.proofs.Common.{ℕ, ◌<◌}
use Rattle.nldm_lookup.specs.Axes.{FallsAt}
use Rattle.nldm_lookup.proofs.axis.first_fall.Given as goal

-- no place so far falls
abbrev pub invariant-loop-place : goal.invariant-loop-place
invariant-loop-place l = (earlier : ℕ) → earlier < l.place → ¬ FallsAt l.points earlier
