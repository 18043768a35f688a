use Rattle.cell_models.proofs.CornerLemmas.{pin_count_there, arc_count_there}
use Rattle.cell_models.proofs.cell_set.CellSet.cell.Goals as goal

-- src/cell_set.rt
pub returns-clause-pin_count : goal.returns-clause-pin_count
returns-clause-pin_count g c = pin_count_there _ _ _ c.at_corner.ensures.cell c.at_corner.ensures.whole.shaped

pub returns-clause-arc_count : goal.returns-clause-arc_count
returns-clause-arc_count g c = arc_count_there _ _ _ c.at_corner.ensures.cell c.at_corner.ensures.whole.shaped
