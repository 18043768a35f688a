use Rattle.std.proofs.Common.{[], ◌∷◌}
use Rattle.annotation_rows.specs.WireRows.{wire_row}
use Rattle.annotation_rows.proofs.WireLists.{wires_next}
use Rattle.annotation_rows.proofs.wire_rows.add_driven.Goals as goal

-- src/wire_rows.rt
pub loop-sink-preserved : goal.loop-sink-preserved
loop-sink-preserved g c = (
  wires_next (λ sink. wire_row c.args.spelled.now.linked.now.cells c.args.spelled.now.linked.now.netlist g.C.CornerSet.COUNT c.args.spelled.now.nets.now c.args.driver c.args.net sink ∷ []) c.loop-sink.sink c.args.rows.now
      c.loop-sink.rows _ c.loop-sink.invariant.0 c.in_ok-add_wire.ensures.row,
  c.add_wire.ensures.one_row,
)
