-- How rows of wires are kept: their names by number, and the delays of all of them in one list.
use Rattle.std.specs.Prelude.{ℕ, ◌<◌, List, [], ◌∷◌, ◌++◌, take, drop, flat_map}
use Rattle.delay_units.specs.declared.Femto.{Femto}
use Rattle.sdf_writer.specs.SdfText.{WireRow, wire_line}
use Rattle.sdf_writer.specs.Names.{name_at, KeepsName}
use Rattle.sdf_writer.specs.declared.rows.Wire.{Wire}

-- the row of a wire with these delays
abbrev pub wire_row : List (List ℕ) → Wire → List Femto → WireRow
wire_row names wire delay = record { from = name_at names wire.from; to = name_at names wire.to; delay = delay }

-- each wire takes the next delays, one a corner
abbrev pub wire_rows : ℕ → List (List ℕ) → List Wire → List Femto → List WireRow
wire_rows count names [] delays = []
wire_rows count names (wire ∷ wires) delays = wire_row names wire (take count delays) ∷ wire_rows count names wires (drop count delays)

-- the names of a wire's ends stand among so many
pub record IsWireKept (names : ℕ) (wire : Wire) : Type 0 where
  pub from : wire.from < names
  pub to : wire.to < names

-- the ends of a wire have these names
pub record KeepsWire (names : List (List ℕ)) (from to : List ℕ) (wire : Wire) : Type 0 where
  pub from_kept : KeepsName names from wire.from
  pub to_kept : KeepsName names to wire.to

-- the line of a row, with its end
abbrev pub wire_text : WireRow → List ℕ
wire_text row = wire_line row ++ 10 ∷ []

-- the lines of the rows
abbrev pub wires_text : List WireRow → List ℕ
wires_text rows = flat_map wire_text rows
