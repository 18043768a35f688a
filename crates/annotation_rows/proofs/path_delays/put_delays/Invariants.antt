use Rattle.std.proofs.Common.{◌≤◌, ◌+◌, ◌*◌, take}
use Rattle.annotation_rows.specs.PathRows.{cell_arcs}
use Rattle.annotation_rows.specs.PathTables.{AreBests, arcs_with}
use Rattle.annotation_rows.proofs.path_delays.put_delays.Given as goal

abbrev pub invariant-loop-arc : goal.invariant-loop-arc
invariant-loop-arc g l = record {
  bests : AreBests l.design l.instance l.edge l.arc l.values.values;
  steps : l.steps ≤ l.fn.steps + 32 * (l.design.source.count * arcs_with l.edge (take l.arc (cell_arcs l.design l.instance)));
}
