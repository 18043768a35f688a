-- The rounded reading of a decimal in a unit.
use Rattle.std.specs.Prelude.{ℕ, suc, ◌^◌, List, ℤ, pos, negsuc, ◌+ℤ◌, ◌*ℤ◌}
use Rattle.delay_units.specs.Literal.{IsNumber}
use Rattle.delay_units.specs.Rounding.{IsRounding}
use Rattle.delay_units.specs.declared.numbers.Decimal.{Decimal}
use Rattle.delay_units.specs.declared.numbers.Unit.{Unit}

-- v is n * 10^power rounded
abbrev pub IsRoundedPower : (n power v : ℤ) → Type 0
IsRoundedPower n (pos k) v = IsRounding (n *ℤ pos (10 ^ k)) (pos 1) v
IsRoundedPower n (negsuc k) v = IsRounding n (pos (10 ^ suc k)) v

-- v is m * 10^e in the unit M * 10^p, which is m * M * 10^(e + p), rounded to whole grains
abbrev pub IsReading : Decimal → Unit → ℤ → Type 0
IsReading number unit v =
    IsRoundedPower (number.digits *ℤ pos unit.mantissa) (number.exponent +ℤ unit.exponent) v

-- the text is a number that is read, and v its rounded reading in the unit
pub record ReadsAs (unit : Unit) (text : List ℕ) (v : ℤ) : Type 0 where
  pub number : Decimal
  pub reads : IsNumber text number
  pub rounded : IsReading number unit v
