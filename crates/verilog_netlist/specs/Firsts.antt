-- The first place of which something holds.
use Rattle.std.specs.Prelude.{ℕ, ◌<◌, Bool, true, false, Option, Some, None}

abbrev pub IsFirst : (ℕ → Type 0) → Option ℕ → Type 0
IsFirst P None = (place : ℕ) → P place → ⊥
IsFirst P (Some place) = P place × ((before : ℕ) → before < place → P before → ⊥)

-- what was found before this place, or this place where it holds here
abbrev pub first_or : Option ℕ → ℕ → Bool → Option ℕ
first_or (Some before) place here = Some before
first_or None place true = Some place
first_or None place false = None
