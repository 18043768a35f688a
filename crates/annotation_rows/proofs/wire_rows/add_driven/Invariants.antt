use Rattle.std.proofs.Common.{◌≡◌, length}
use Rattle.annotation_rows.specs.WireRows.{driven_rows, with_wires}
use Rattle.annotation_rows.proofs.wire_rows.add_driven.Given as goal

abbrev pub invariant-loop-sink : goal.invariant-loop-sink
invariant-loop-sink g l = (l.rows ≡ with_wires l.fn.rows (driven_rows l.spelled.linked.now.cells l.spelled.linked.now.netlist g.C.CornerSet.COUNT l.spelled.nets.now l.driver l.net l.sink))
    × (length l.delay.values ≡ g.C.CornerSet.COUNT)
