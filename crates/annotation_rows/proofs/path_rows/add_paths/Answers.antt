use Rattle.annotation_rows.specs.PathRows.{rows_at}
use Rattle.annotation_rows.proofs.PathLists.{paths_next}
use Rattle.annotation_rows.proofs.path_rows.add_paths.Goals as goal

-- src/path_rows.rt
pub loop-arc-preserved : goal.loop-arc-preserved
loop-arc-preserved g c = record {
  rows = paths_next (rows_at c.args.design.now c.args.instance) c.loop-arc.arc c.args.rows.now c.loop-arc.rows _ c.loop-arc.invariant.rows c.in_ok-add_first.ensures.rows;
  rise = c.in_ok-add_first.ensures.rise;
  fall = c.in_ok-add_first.ensures.fall;
}
