use Rattle.std.proofs.Common.{◌≡◌, map, take}
use Rattle.std.specs.Prelude.{All}
use Rattle.slew_order.specs.Sinks.{IsSunk, related_sink}
use Rattle.slew_order.proofs.sinks.related_sinks.Given as goal

abbrev pub invariant-loop-place : goal.invariant-loop-place
invariant-loop-place g l = record {
  sinks : l.sinks.items ≡ map (related_sink l.linked.netlist l.linked.cells) (take l.place l.arcs);
  sunk : All (IsSunk l.linked.netlist l.linked.cells) (take l.place l.arcs);
}
