use Rattle.annotation_rows.specs.WireRows.{net_rows}
use Rattle.annotation_rows.proofs.WireLists.{wires_next}
use Rattle.annotation_rows.proofs.wire_rows.add_wires.Goals as goal

-- src/wire_rows.rt
pub loop-net-preserved : goal.loop-net-preserved
loop-net-preserved g c = (
  wires_next (net_rows c.args.spelled.now.linked.now.cells c.args.spelled.now.linked.now.netlist g.C.CornerSet.COUNT c.args.spelled.now.nets.now) c.loop-net.net c.args.rows.now
      c.loop-net.rows _ c.loop-net.invariant.0 c.in_ok-add_net.ensures.rows,
  c.in_ok-add_net.ensures.one_row,
)
