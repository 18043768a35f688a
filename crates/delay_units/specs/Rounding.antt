-- Rounding half up: to the nearest integer, and to the greater of two that are as near.
use Rattle.std.specs.Prelude.{◌≡◌, ℤ, pos, ◌+ℤ◌, ◌-ℤ◌, ◌*ℤ◌, ◌≤ℤ◌, ◌<ℤ◌}

-- v is n / d rounded: (2v - 1) d ≤ 2n < (2v + 1) d
pub record IsRounding (n d v : ℤ) : Type 0 where
  pub least : (((pos 2 *ℤ v) -ℤ pos 1) *ℤ d) ≤ℤ (pos 2 *ℤ n)
  pub most : (pos 2 *ℤ n) <ℤ (((pos 2 *ℤ v) +ℤ pos 1) *ℤ d)

-- a quotient by a positive number has one rounding, and no second
abbrev pub OneRounding : Type 0
OneRounding = (n d : ℤ) → pos 0 <ℤ d → (v : ℤ) × IsRounding n d v × ((w : ℤ) → IsRounding n d w → w ≡ v)
