use Rattle.std.proofs.Common.{◌≡◌, ◌+◌, ◌≤◌, length}
use Rattle.rc_tree.specs.ListedPins.{listed_pins}
use Rattle.wire_phases.specs.NetRows.{AddsRows}
use Rattle.wire_phases.proofs.net_rows.add_rows.Given as goal

abbrev pub invariant-loop-sink : goal.invariant-loop-sink
invariant-loop-sink g l = (length l.delay.values ≡ 1) × AddsRows (listed_pins 1 l.net l.pins.driver) l.tree l.sink l.initial.rows l.rows × (l.steps ≤ l.initial.steps + l.sink)
