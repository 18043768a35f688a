use Rattle.std.proofs.Common.{◌≡◌, length}
use Rattle.annotation_rows.specs.PathRows.{instance_rows_to, with_paths}
use Rattle.annotation_rows.proofs.path_rows.add_paths.Given as goal

abbrev pub invariant-loop-arc : goal.invariant-loop-arc
invariant-loop-arc g l = record {
  rows : l.rows ≡ with_paths l.fn.rows (instance_rows_to l.design l.instance l.arc);
  rise : length l.times.rise.values ≡ g.C.CornerSet.COUNT;
  fall : length l.times.fall.values ≡ g.C.CornerSet.COUNT;
}
