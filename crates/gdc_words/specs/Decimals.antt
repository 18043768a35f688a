-- Values that are decimals.
use Rattle.std.specs.Prelude.{ℕ, ◌^◌, ◌≤◌, List, pos, ◌+ℤ◌}
use Rattle.delay_units.specs.Literal.{IsNumber}
use Rattle.delay_units.specs.Reading.{IsRoundedPower}
use Rattle.delay_units.specs.declared.numbers.Decimal.{Decimal}

-- a microsecond of attoseconds, and a nanofarad of 10^-21 F
abbrev pub most_grains : ℕ
most_grains = 10 ^ 12

-- A value reads as so many grains: picoseconds as attoseconds, or femtofarads as 10^-21 F, which are a million each, rounded half up to
-- whole
-- grains. It has at most thirty significant digits and an exponent of at most 99 in size.
pub record IsGrains (value : List ℕ) (grains : ℕ) : Type 0 where
  pub number : Decimal
  pub reads : IsNumber value number
  pub rounds : IsRoundedPower number.digits (number.exponent +ℤ pos 6) (pos grains)
  pub within : grains ≤ most_grains
