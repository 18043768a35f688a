-- What the running value of some digits says of them.
use Rattle.std.specs.Prelude.{◌≡◌, ◌≢◌, ℕ, ◌%◌, ◌^◌, ◌<◌, ◌≤◌, List, [], ◌∷◌, ◌++◌, length, reverse, replicate, ⊤}
use Rattle.delay_units.specs.Literal.{number_of}
use Rattle.delay_units.specs.declared.tally.Tally.{Tally}

-- a list does not begin with the digit '0'
abbrev pub NoZeroFirst : List ℕ → Type 0
NoZeroFirst [] = ⊤
NoZeroFirst (c ∷ cs) = c ≢ 48

-- the digits are zeros, then the significant ones, then zeros, and the tally has their counts and the number that
-- the significant ones write, if they are few
pub record IsTallyOf (ds : List ℕ) (t : Tally) : Type 0 where
  pub leading : ℕ
  pub middle : List ℕ
  pub split : ds ≡ replicate leading 48 ++ (middle ++ replicate t.zeros 48)
  pub starts : NoZeroFirst middle
  pub ends : NoZeroFirst (reverse middle)
  pub significant : t.significant ≡ length middle
  pub digits : t.digits ≡ length ds
  pub number : t.significant ≤ 30 → t.number ≡ number_of middle
  pub below : t.significant ≤ 30 → t.number < 10 ^ t.significant
  pub last_digit : t.significant ≤ 30 → 0 < t.significant → t.number % 10 ≢ 0
