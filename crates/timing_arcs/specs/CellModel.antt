-- The timing model of a cell: its pins and arcs are those of the library's groups.
use Rattle.std.specs.Prelude.{◌≡◌, ℕ, List, map, All, Some}
use Rattle.std.specs.List.{AllZip}
use Rattle.liberty_groups.specs.Groups.{Group}
use Rattle.cell_models.specs.Cells.{TimedCell}
use Rattle.liberty_tables.specs.Library.{cell_group}
use Rattle.timing_arcs.specs.PinModel.{PinEntry, pins_of, IsPin}
use Rattle.timing_arcs.specs.DelayGroups.{arcs_of, IsArc}
use Rattle.timing_arcs.specs.CellFaults.{questions_of, IsSound}

abbrev pub names_of : List PinEntry → List (List ℕ)
names_of entries = map (λ (entry : PinEntry). entry.name) entries

-- the model of the cell of a name, of which no question has a fault
pub record IsModel (library : Group) (name : List ℕ) (cell : TimedCell) : Type 0 where
  pub group : Group
  pub found : cell_group library name ≡ Some group
  pub sound : All (IsSound library) (questions_of group)
  pub pins : AllZip (IsPin library) (pins_of group) cell.pins
  pub arcs : AllZip (IsArc library (names_of (pins_of group))) (arcs_of group) cell.arcs
