use Rattle.annotation_rows.proofs.ManyPaths.{AreShapedTo, HavePathsTo}
use Rattle.annotation_rows.proofs.cell_paths.paths_of_all.Given as goal

abbrev pub invariant-loop-cell : goal.invariant-loop-cell
invariant-loop-cell g l = record {
  paths : HavePathsTo l.cells l.cell l.paths.items;
  shaped : AreShapedTo g.C.CornerSet.COUNT l.cells l.cell;
}
