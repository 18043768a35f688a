use Rattle.std.proofs.Common.{◌≡◌, ◌+◌, ◌*◌, ◌≤◌, length}
use Rattle.annotation_rows.specs.PathRows.{path_rows_to, with_paths}
use Rattle.annotation_rows.proofs.InstanceSteps.{edges_to}
use Rattle.annotation_rows.proofs.path_rows.add_instances.Given as goal

abbrev pub invariant-loop-instance : goal.invariant-loop-instance
invariant-loop-instance g l = record {
  rows : l.rows ≡ with_paths l.fn.rows (path_rows_to l.design l.instance);
  rise : length l.draft.times.rise.values ≡ g.C.CornerSet.COUNT;
  fall : length l.draft.times.fall.values ≡ g.C.CornerSet.COUNT;
  steps : l.steps ≤ l.fn.steps + 32 * (l.design.source.count * edges_to l.design.source l.instance);
}
