-- The places up to here have the value.
use Rattle.std.proofs.Common.{◌≡◌, ◌++◌, drop, replicate}
use Rattle.corner_set.proofs.grid.overwrite.Given as goal

abbrev pub invariant-loop-place : goal.invariant-loop-place
invariant-loop-place g l = l.values ≡ replicate l.place l.fill ++ drop l.place l.fn.values
