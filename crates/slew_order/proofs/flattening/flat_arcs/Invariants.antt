use Rattle.std.proofs.Common.{◌≡◌, map, take}
use Rattle.slew_order.specs.FlatArcs.{flat_at}
use Rattle.slew_order.proofs.flattening.flat_arcs.Given as goal

abbrev pub invariant-loop-place : goal.invariant-loop-place
invariant-loop-place g l = l.flat.items ≡ map (flat_at l.linked.netlist l.linked.cells) (take l.place l.arcs)
