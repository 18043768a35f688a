use Rattle.std.proofs.Common.{◌≤◌, length}
use Rattle.netlist_link.specs.FlatNetlist.{net_at}
use Rattle.slew_order.specs.SinkPlaces.{ArePlacedTo}
use Rattle.slew_order.proofs.sinks.place_sinks.Given as goal

abbrev pub invariant-loop-sink : goal.invariant-loop-sink
invariant-loop-sink l = record {
  few : l.sink ≤ length (net_at l.netlist l.net).sinks;
  placed : ArePlacedTo l.netlist l.starts l.net l.sink l.places.items;
}

abbrev pub decreases-loop-sink : goal.decreases-loop-sink
decreases-loop-sink l = l.sink
