-- The rows of delays that an SDF file says (IEEE 1497-2001).
use Rattle.std.specs.Prelude.{ℕ, List, [], ◌∷◌, ◌++◌, Option, Some, None}
use Rattle.name_table.specs.SdfNames.{canonical}
use Rattle.edge_io.specs.Bytes.{slash}
use Rattle.sdf_reader.specs.declared.modes.Shape.{Shape}
use Rattle.sdf_reader.specs.declared.modes.Shape.TheVariants as shape
use Rattle.sdf_reader.specs.declared.rows.Value.{Value}
use Rattle.sdf_reader.specs.declared.rows.SdfRow.{SdfRow}
use Rattle.sdf_reader.specs.declared.rows.SdfRow.TheVariants.{Wire, Path}
use Rattle.sdf_reader.specs.declared.timescales.Timescale.{Timescale}
use Rattle.sdf_reader.specs.declared.timescales.Count.TheVariants.{One}
use Rattle.sdf_reader.specs.declared.timescales.TimeUnit.TheVariants.{Nanosecond}

-- what the heads of a file set: the byte between the parts of its paths, and the unit of its numbers
pub record Head : Type 0 where
  pub divider : ℕ
  pub scale : Timescale

-- the heads of a file that sets nothing: `.` and one nanosecond
abbrev pub plain_head : Head
plain_head = record { divider = 46; scale = record { count = One; unit = Nanosecond } }

-- a cell: its type, and its instance, which is none where the cell stands for many
pub record Place : Type 0 where
  pub cell : List ℕ
  pub instance : Option (List ℕ)

-- a value without a number
abbrev pub no_value : Value
no_value = record { min = None; typ = None; max = None }

-- the first value of an entry is its rise, the second its fall; a single one is both; further ones say nothing
abbrev pub rise_of : List Value → Value
rise_of [] = no_value
rise_of (rise ∷ rest) = rise

abbrev pub fall_of : List Value → Value
fall_of [] = no_value
fall_of (rise ∷ []) = rise
fall_of (rise ∷ fall ∷ rest) = fall

-- a name in an instance: the name alone where the instance is empty
abbrev pub within : List ℕ → List ℕ → List ℕ
within [] name = name
within (first ∷ rest) name = first ∷ rest ++ slash ∷ name

-- the row of an entry in an instance, its names in their canonical spelling
abbrev pub row_in : Shape → List ℕ → List ℕ → List ℕ → List ℕ → Value → Value → SdfRow
row_in shape.Path cell instance from to rise fall = Path cell instance from to rise fall
row_in shape.Wire cell instance from to rise fall = Wire (within instance from) (within instance to) rise fall

-- the rows of an entry in a cell: one, or none in a cell that stands for many
abbrev pub rows_in : Shape → List ℕ → Option (List ℕ) → List ℕ → List ℕ → Value → Value → List SdfRow
rows_in shape cell None from to rise fall = []
rows_in shape cell (Some instance) from to rise fall = row_in shape cell instance from to rise fall ∷ []

-- the same of its names as they stand in a file with this divider, and all of its values
abbrev pub rows_of : ℕ → Place → Shape → List ℕ → List ℕ → List Value → List SdfRow
rows_of divider place shape from to values =
    rows_in shape place.cell place.instance (canonical divider from) (canonical divider to) (rise_of values) (fall_of values)
