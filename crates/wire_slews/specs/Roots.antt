-- Square roots of whole numbers.
use Rattle.std.specs.Prelude.{ℕ, ◌+◌, ◌*◌, ◌<◌, ◌≤◌}

-- r is the root of n, rounded down
pub record IsRoot (n r : ℕ) : Type 0 where
  pub least : r * r ≤ n
  pub most : n < (r + 1) * (r + 1)
