use Rattle.std.proofs.Common.{arith}
use Rattle.rc_tree.specs.ListedPins.{listed_pins}
use Rattle.wire_phases.proofs.TreeRows.{no_rows, rows_more}
use Rattle.wire_phases.proofs.net_rows.add_rows.Goals as goal

pub loop-sink-init : goal.loop-sink-init
loop-sink-init g c = (c.requires.one_row, no_rows (listed_pins 1 c.args.net.now c.args.pins.now.driver) c.args.tree.now c.args.rows.now, omega arith)

pub loop-sink-preserved : goal.loop-sink-preserved
loop-sink-preserved g c = (
  c.in_ok-add_row.ensures.one_row,
  rows_more (listed_pins 1 c.args.net.now c.args.pins.now.driver) c.args.tree.now c.loop-sink.sink c.args.rows.now c.loop-sink.rows c.add_row.new.rows c.loop-sink.invariant.1 c.in_ok-add_row.ensures.row,
  omega (arith, c.loop-sink.invariant.2, c.add_row.ensures.step),
)

pub add_row-requires-clause-from : goal.add_row-requires-clause-from
add_row-requires-clause-from g c = c.in_ok-driver.ensures
