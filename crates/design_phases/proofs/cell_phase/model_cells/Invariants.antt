-- The models of the cells before this one are made.
use Rattle.std.proofs.Common.{map}
use Rattle.liberty_groups.specs.Tables.{tree_of}
use Rattle.design_phases.specs.CellPhase.{AreFirstCells}
use Rattle.design_phases.proofs.cell_phase.model_cells.Given as goal

abbrev pub invariant-loop-name : goal.invariant-loop-name
invariant-loop-name g l = AreFirstCells (map tree_of l.libraries) l.used l.name-index l.cells
