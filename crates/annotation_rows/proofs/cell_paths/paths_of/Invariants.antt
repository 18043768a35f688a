use Rattle.cell_models.specs.CornerCells.{arcs_at}
use Rattle.annotation_rows.specs.CellPaths.{HasNumbers}
use Rattle.annotation_rows.proofs.PathNumbers.{ArePathsTo}
use Rattle.annotation_rows.proofs.cell_paths.paths_of.Given as goal

abbrev pub invariant-loop-place : goal.invariant-loop-place
invariant-loop-place g l = HasNumbers (arcs_at l.cell 0) l.place l.numbers.entries × ArePathsTo (arcs_at l.cell 0) l.place l.paths.items
