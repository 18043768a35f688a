use Rattle.std.proofs.Common.{List, All, subst}
use Rattle.cell_models.specs.Cells.{TimedCell, IsCell}
use Rattle.cell_models.proofs.cell_list.CellList.into_cells.Goals as goal

-- src/cell_list.rt
pub returns-clause-whole : goal.returns-clause-whole
returns-clause-whole c = let AreCells : List TimedCell → Type 0 = All IsCell in subst AreCells c.self.view_is c.self.invariant
