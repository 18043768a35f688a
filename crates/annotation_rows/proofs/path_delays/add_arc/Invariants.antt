use Rattle.std.proofs.Common.{◌≤◌, ◌+◌, ◌*◌, if◌then◌else◌}
use Rattle.annotation_rows.specs.CellPaths.{arc_in}
use Rattle.annotation_rows.specs.PathRows.{arc_has, cell_arcs}
use Rattle.annotation_rows.specs.PathTables.{AreBestsTo}
use Rattle.annotation_rows.proofs.path_delays.add_arc.Given as goal

abbrev pub invariant-loop-number : goal.invariant-loop-number
invariant-loop-number g l = record {
  bests : AreBestsTo l.design l.at.instance l.edge l.at.arc l.number l.values.values;
  steps : l.steps ≤ l.fn.steps + 32 * (l.number * (if arc_has (arc_in (cell_arcs l.design l.at.instance) l.at.arc) l.edge then 1 else 0));
}
