-- The numbers of a value (IEEE 1497-2001): one literal, or a least, a typical and a largest one with colons between them.
use Rattle.std.specs.Prelude.{◌≡◌, ℕ, ◌^◌, ◌≤◌, Bool, true, ◌||◌, is_some, pos, ◌+ℤ◌, unsigned_abs, List, [], ◌∷◌, ◌++◌, Option, Some, None, ⊤}
use Rattle.delay_units.specs.Literal.{IsNumber}
use Rattle.delay_units.specs.Reading.{IsRoundedPower}
use Rattle.delay_units.specs.declared.numbers.Decimal.{Decimal}
use Rattle.delay_units.specs.declared.quantities.Femto.{Femto}
use Rattle.sdf_reader.specs.Timescales.{power_of}
use Rattle.sdf_reader.specs.declared.rows.Value.{Value}
use Rattle.sdf_reader.specs.declared.timescales.Timescale.{Timescale}

-- The time of a literal, in units of ten to this power femtoseconds, rounded to a femtosecond. It is at most 10^27 femtoseconds in size,
-- and the literal has at most thirty significant digits and an exponent of at most 99 in size.
pub record IsTime (power : ℕ) (text : List ℕ) (time : Femto) : Type 0 where
  pub number : Decimal
  pub reads : IsNumber text number
  pub rounds : IsRoundedPower number.digits (number.exponent +ℤ pos power) time.0
  pub within : unsigned_abs time.0 ≤ 10 ^ 27

-- one of three members, which may be left out
pub data IsMember (power : ℕ) : List ℕ → Option Femto → Type 0 where
  left_out : IsMember power [] None
  member : {text : List ℕ} {time : Femto} → IsTime power text time → IsMember power text (Some time)

-- three members, of which one at least is there
abbrev pub has_number : Value → Bool
has_number value = is_some value.min || is_some value.typ || is_some value.max

pub record AreMembers (power : ℕ) (least typical largest : List ℕ) (value : Value) : Type 0 where
  pub min : IsMember power least value.min
  pub typ : IsMember power typical value.typ
  pub max : IsMember power largest value.max
  pub some : has_number value ≡ true

-- one time as all three members
abbrev pub single_value : Femto → Value
single_value time = record { min = Some time; typ = Some time; max = Some time }

-- A value as it stands in a word: a literal, which is all three members, or three members with colons between them.
pub data IsValue (scale : Timescale) : List ℕ → Value → Type 0 where
  single : {text : List ℕ} {time : Femto}
      → IsTime (power_of scale) text time
      → IsValue scale text (single_value time)
  triple : {least typical largest : List ℕ} {value : Value}
      → AreMembers (power_of scale) least typical largest value
      → IsValue scale (least ++ 58 ∷ (typical ++ 58 ∷ largest)) value

-- no byte is a colon
abbrev pub HasNoColon : List ℕ → Type 0
HasNoColon [] = ⊤
HasNoColon (byte ∷ bytes) = (byte ≡ 58 → ⊥) × HasNoColon bytes
