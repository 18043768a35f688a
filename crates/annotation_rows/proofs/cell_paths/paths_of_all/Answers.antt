use Rattle.annotation_rows.proofs.ManyPaths.{more_have, more_shaped}
use Rattle.annotation_rows.proofs.cell_paths.paths_of_all.Goals as goal

-- src/cell_paths.rt
pub loop-cell-preserved : goal.loop-cell-preserved
loop-cell-preserved g c = record {
  paths = more_have c.args.cells.now c.loop-cell.cell c.set.result.now c.in_ok-paths_of.field-0 c.loop-cell.paths.items c.push.new.items.items c.loop-cell.invariant.paths
      c.set.ensures c.in_ok-paths_of.ensures.paths c.in_ok-push.ensures.ok;
  shaped = more_shaped g.C.CornerSet.COUNT c.args.cells.now c.loop-cell.cell c.set.result.now c.loop-cell.invariant.shaped c.set.ensures c.paths_of.ensures.whole;
}
