use Rattle.slew_order.proofs.Placing.{AreBefore}
use Rattle.slew_order.proofs.sinks.sink_places.Given as goal

abbrev pub invariant-loop-net : goal.invariant-loop-net
invariant-loop-net l = AreBefore l.netlist l.starts l.net l.places.items
