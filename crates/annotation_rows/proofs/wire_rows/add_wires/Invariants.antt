use Rattle.std.proofs.Common.{◌≡◌, length}
use Rattle.annotation_rows.specs.WireRows.{wire_rows_to, with_wires}
use Rattle.annotation_rows.proofs.wire_rows.add_wires.Given as goal

abbrev pub invariant-loop-net : goal.invariant-loop-net
invariant-loop-net g l = (l.rows ≡ with_wires l.fn.rows (wire_rows_to l.spelled.linked.now.cells l.spelled.linked.now.netlist g.C.CornerSet.COUNT l.spelled.nets.now l.net))
    × (length l.delay.values ≡ g.C.CornerSet.COUNT)
