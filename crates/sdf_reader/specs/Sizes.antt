-- How much the rows of a file can be.
use Rattle.std.specs.Prelude.{◌^◌, ◌<◌, ◌≤◌, unsigned_abs, List, length, Option, Some, None, ⊤}
use Rattle.std.specs.List.{All}
use Rattle.delay_units.specs.declared.quantities.Femto.{Femto}
use Rattle.sdf_reader.specs.declared.rows.Value.{Value}
use Rattle.sdf_reader.specs.declared.rows.SdfRow.{SdfRow}
use Rattle.sdf_reader.specs.declared.rows.SdfRow.TheVariants.{Wire, Path}

-- a time that is there is at most 10^27 femtoseconds in size
abbrev pub IsTimeWithin : Option Femto → Type 0
IsTimeWithin None = ⊤
IsTimeWithin (Some time) = unsigned_abs time.0 ≤ 10 ^ 27

abbrev pub IsValueWithin : Value → Type 0
IsValueWithin value = IsTimeWithin value.min × IsTimeWithin value.typ × IsTimeWithin value.max

abbrev pub IsRowWithin : SdfRow → Type 0
IsRowWithin (Wire from to rise fall) = IsValueWithin rise × IsValueWithin fall
IsRowWithin (Path cell instance from to rise fall) = IsValueWithin rise × IsValueWithin fall

-- fewer than 2^32 rows, and each of their times is within the bound
pub record AreWithin (rows : List SdfRow) : Type 0 where
  pub few : length rows < 2 ^ 32
  pub each : All IsRowWithin rows
