-- The names of the pins of a cell differ.
use Rattle.std.proofs.Common.{◌≡◌, ℕ, List, [], Option, Some, None, slice_get, refl, subst, arith}
use Rattle.std.specs.Option.{option_map_or}
use Rattle.std.proofs.lemmas.Option.{slice_get_within, get_or_from_slice_get}
use Rattle.name_table.specs.Names.{AreDistinct}
use Rattle.cell_models.specs.Cells.{TimedCell, IsCell}
use Rattle.cell_models.specs.CornerCells.{AreCornerCells, pins_at}
use Rattle.netlist_link.specs.JointTables.{pin_names}

no_pins_differ : AreDistinct (pin_names [])
no_pins_differ i j d before below = absurd (omega (arith, below))

pub pins_differ : (count : ℕ) (cells : List TimedCell) → AreCornerCells count cells → AreDistinct (pin_names (pins_at cells 0))
pins_differ count cells are = by (slice_get cells 0) refl
  where
    by : (found : Option TimedCell) → slice_get cells 0 ≡ found
        → AreDistinct (pin_names (option_map_or (λ (cell : TimedCell). cell.pins) found []))
    by None at = no_pins_differ
    by (Some cell) at = (subst IsCell (get_or_from_slice_get cells 0 cell cell at) (are.whole 0 cell (slice_get_within cells 0 cell at))).distinct
