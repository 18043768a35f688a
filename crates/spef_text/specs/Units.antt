-- The units of a SPEF file (IEEE 1481): a literal and a word, as `1.5 PF`.
use Rattle.std.specs.Prelude.{◌≡◌, ℕ, ℤ, pos, ◌+ℤ◌, Bool, if◌then◌else◌, List, [], ◌∷◌, map, Option, Some, None, codes}
use Rattle.std.specs.Char.{to_ascii_lowercase}
use Rattle.std.specs.Str.{bytes_eq}
use Rattle.delay_units.specs.Literal.{IsNumber}
use Rattle.delay_units.specs.declared.numbers.Decimal.{Decimal}
use Rattle.delay_units.specs.declared.numbers.Unit.{Unit}
use Rattle.spef_text.specs.declared.units.Quantity.{Quantity}
use Rattle.spef_text.specs.declared.units.Quantity.TheVariants.{Capacitance, Resistance}

-- the words of units, and the power of ten that each stands for, in grains of 10^-21 F and of 10^-6 ohm
abbrev pub powers : Quantity → List (List ℕ × ℤ)
powers Capacitance = (codes "FF", pos 6) ∷ (codes "PF", pos 9) ∷ []
powers Resistance = (codes "OHM", pos 6) ∷ (codes "KOHM", pos 9) ∷ []

-- one word, in any case of letters
unfoldable pub same_word : List ℕ → List ℕ → Bool
same_word one other = bytes_eq (map to_ascii_lowercase one) (map to_ascii_lowercase other)

-- what stands in the table beside the word
abbrev pub power_in : List (List ℕ × ℤ) → List ℕ → Option ℤ
power_in [] word = None
power_in (known ∷ later) word = if same_word word known.0 then Some known.1 else power_in later word

abbrev pub power_of : Quantity → List ℕ → Option ℤ
power_of quantity word = power_in (powers quantity) word

-- The unit that a literal and a word name: the literal's digits, times ten to its exponent and the word's power. A unit's digits are from 1
-- to 9,999,999, and its exponent is from -99 to 99.
pub record IsUnit (quantity : Quantity) (number word : List ℕ) (unit : Unit) : Type 0 where
  pub power : ℤ
  pub known : power_of quantity word ≡ Some power
  pub value : Decimal
  pub reads : IsNumber number value
  pub mantissa : pos unit.mantissa ≡ value.digits
  pub exponent : unit.exponent ≡ value.exponent +ℤ power

-- they name none
abbrev pub IsNoUnit : Quantity → List ℕ → List ℕ → Type 0
IsNoUnit quantity number word = (unit : Unit) → IsUnit quantity number word unit → ⊥
