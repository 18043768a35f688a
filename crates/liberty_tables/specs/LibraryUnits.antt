-- The units of a library (Liberty, time_unit and capacitive_load_unit), in attoseconds and in grains of 10^-21 F.
use Rattle.std.specs.Prelude.{◌≡◌, ℕ, ℤ, pos, ◌+ℤ◌, if◌then◌else◌, List, [], ◌∷◌, map, Option, Some, None, unwrap_or, bytes_eq, codes}
use Rattle.std.specs.Char.{to_ascii_lowercase}
use Rattle.delay_units.specs.Literal.{IsNumber}
use Rattle.delay_units.specs.declared.numbers.Decimal.{Decimal}
use Rattle.delay_units.specs.declared.numbers.Unit.{Unit}
use Rattle.liberty_groups.specs.Groups.{Group}
use Rattle.liberty_tables.specs.Library.{value_in, values_in}
use Rattle.liberty_tables.specs.declared.library_units.LibraryUnits.{LibraryUnits}

-- the power of ten that a unit of time stands for
abbrev pub time_power : List ℕ → Option ℤ
time_power text =
    if bytes_eq text (codes "1ps") then Some (pos 6)
    else if bytes_eq text (codes "10ps") then Some (pos 7)
    else if bytes_eq text (codes "100ps") then Some (pos 8)
    else if bytes_eq text (codes "1ns") then Some (pos 9)
    else None

-- the unit of times, a nanosecond where none is named
pub record IsTimeUnit (library : Group) (unit : Unit) : Type 0 where
  pub power : ℤ
  pub known : time_power (unwrap_or (value_in (codes "time_unit") library) (codes "1ns")) ≡ Some power
  pub mantissa : unit.mantissa ≡ 1
  pub exponent : unit.exponent ≡ power

-- a word in any case of letters
abbrev pub lower : List ℕ → List ℕ
lower word = map to_ascii_lowercase word

-- the power of ten that a unit of capacitance stands for
unfoldable pub load_power : List ℕ → Option ℤ
load_power word =
    if bytes_eq (lower word) (codes "ff") then Some (pos 6)
    else if bytes_eq (lower word) (codes "pf") then Some (pos 9)
    else None

-- The unit of capacitances that a number and a word name, as `1.5` and `pf`. A unit's digits are from 1 to 9,999,999, and its exponent is
-- from -99 to 99.
pub record IsUnitOf (number word : List ℕ) (unit : Unit) : Type 0 where
  pub power : ℤ
  pub known : load_power word ≡ Some power
  pub value : Decimal
  pub reads : IsNumber number value
  pub mantissa : pos unit.mantissa ≡ value.digits
  pub exponent : unit.exponent ≡ value.exponent +ℤ power

-- the unit of the capacitances of a library
pub record IsLoadUnit (library : Group) (unit : Unit) : Type 0 where
  pub number : List ℕ
  pub word : List ℕ
  pub values : values_in (codes "capacitive_load_unit") library ≡ Some (number ∷ word ∷ [])
  pub named : IsUnitOf number word unit

pub record AreUnits (library : Group) (units : LibraryUnits) : Type 0 where
  pub time : IsTimeUnit library units.time
  pub load : IsLoadUnit library units.load
