-- The rows that an SDF reader (IEEE 1497-2001) gets back of those that were written.
use Rattle.std.specs.Prelude.{List, [], ◌∷◌, ◌++◌, map, Option, Some, None}
use Rattle.delay_units.specs.declared.quantities.Femto.{Femto}
use Rattle.sdf_reader.specs.Numbers.{single_value}
use Rattle.sdf_reader.specs.Rows.{no_value}
use Rattle.sdf_reader.specs.declared.rows.Value.{Value}
use Rattle.sdf_reader.specs.declared.rows.SdfRow.{SdfRow}
use Rattle.sdf_reader.specs.declared.rows.SdfRow.TheVariants.{Wire, Path}
use Rattle.sdf_writer.specs.SdfText.{WireRow, PathRow, SdfRows}

-- One time is the least, the typical and the largest one, and three are these in this order. No value has another number of times.
abbrev pub value_of : List Femto → Value
value_of (time ∷ []) = single_value time
value_of (least ∷ typical ∷ largest ∷ []) = record { min = Some least; typ = Some typical; max = Some largest }
value_of _ = no_value

-- an edge without a delay has no number
abbrev pub edge_value : Option (List Femto) → Value
edge_value None = no_value
edge_value (Some delay) = value_of delay

-- a wire's value is its rise and its fall
abbrev pub wire_back : WireRow → SdfRow
wire_back row = Wire row.from row.to (value_of row.delay) (value_of row.delay)

abbrev pub path_back : PathRow → SdfRow
path_back row = Path row.cell row.instance row.from row.to (edge_value row.rise) (edge_value row.fall)

-- the wires, and then the paths, each in the order of its rows
abbrev pub read_back_rows : SdfRows → List SdfRow
read_back_rows rows = map wire_back rows.wires ++ map path_back rows.paths
