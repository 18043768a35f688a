-- The one corner of a set that has no more.
use Rattle.std.specs.Prelude.{ℕ, zero, suc, ◌<◌, ◌≤◌, ◌≡◌, Option, Some, None, refl}
use Rattle.std.proofs.Common.{arith}

-- the corner of a number: the number 0 has it
abbrev pub sole_corner : ℕ → Option (Unit {0})
sole_corner zero = Some tt
sole_corner (suc _) = None

-- a number below 1 has the corner, whose number it is
pub sole_corner-below : (number : ℕ) → number < 1 → (index : Unit {0}) × (sole_corner number ≡ Some index) × (0 ≡ number)
sole_corner-below zero below = (tt, refl, refl)
sole_corner-below (suc number) below = absurd (omega arith)

-- no other number has one
pub sole_corner-above : (number : ℕ) → 1 ≤ number → sole_corner number ≡ None
sole_corner-above zero above = absurd (omega arith)
sole_corner-above (suc number) above = refl
