-- The shape of a cell: what its timing models at all corners have in common. Its pins come first, in order, and then its arcs.
use Rattle.std.specs.Prelude.{◌++◌, List, map, is_some}
use Rattle.cell_models.specs.Cells.{TimedCell}
use Rattle.cell_models.specs.declared.cell.Pin.{Pin}
use Rattle.cell_models.specs.declared.cell.Arc.{Arc}
use Rattle.cell_models.specs.declared.shape.Entry.{Entry}
use Rattle.cell_models.specs.declared.shape.Entry.TheVariants as entry

-- a pin, but for its capacitance
abbrev pub pin_entry : Pin → Entry
pin_entry pin = entry.Pin pin.name pin.direction

-- an arc, but for its tables
abbrev pub arc_entry : Arc → Entry
arc_entry arc = entry.Arc arc.from arc.to arc.kind (is_some arc.rise) (is_some arc.fall)

abbrev pub shape_of : TimedCell → List Entry
shape_of cell = map pin_entry cell.pins ++ map arc_entry cell.arcs
