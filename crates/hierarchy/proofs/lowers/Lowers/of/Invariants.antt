-- The rows so far are those of the modules so far.
use Rattle.std.proofs.Common.{◌≡◌, ℕ, ◌<◌, [], length, map, get_or}
use Rattle.hierarchy.specs.Lowers.{lowers_of}
use Rattle.hierarchy.proofs.lowers.Lowers.of.Given as goal

abbrev pub invariant-loop-m : goal.invariant-loop-m
invariant-loop-m l = record {
  size : length l.rows.items ≡ l.m;
  each : (k : ℕ) → k < l.m → get_or (map (λ row. row.items) l.rows.items) k [] ≡ lowers_of l.modules k;
}
