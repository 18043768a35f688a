-- The parts of a cell's model, by its group.
use Rattle.std.specs.Prelude.{ℕ, List, All, flat_map}
use Rattle.std.specs.List.{AllZip}
use Rattle.liberty_groups.specs.Groups.{Group}
use Rattle.cell_models.specs.declared.cell.Arc.{Arc}
use Rattle.cell_models.specs.Cells.{TimedCell}
use Rattle.timing_arcs.specs.PinModel.{PinEntry, pins_of, IsPin}
use Rattle.timing_arcs.specs.DelayGroups.{delays_in, arcs_in, arcs_of, IsArc}
use Rattle.timing_arcs.specs.CellFaults.{delay_questions, cell_questions, IsSound}
use Rattle.timing_arcs.specs.CellModel.{names_of}

-- the arcs of all pins, of whose delay groups no question has a fault
pub record AreArcsOf (library : Group) (names : List (List ℕ)) (pins : List PinEntry) (arcs : List Arc) : Type 0 where
  pub sound : All (IsSound library) (flat_map (delay_questions pins) (flat_map delays_in pins))
  pub built : AllZip (IsArc library names) (flat_map (arcs_in pins) (flat_map delays_in pins)) arcs

-- the model of the cell of a group
pub record IsModelOf (library cell : Group) (model : TimedCell) : Type 0 where
  pub sound : All (IsSound library) (cell_questions cell)
  pub pins : AllZip (IsPin library) (pins_of cell) model.pins
  pub arcs : AllZip (IsArc library (names_of (pins_of cell))) (arcs_of cell) model.arcs
