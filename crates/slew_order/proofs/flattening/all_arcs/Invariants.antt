use Rattle.std.proofs.Common.{◌≡◌}
use Rattle.hierarchy.specs.Walks.{joined_from}
use Rattle.slew_order.specs.FlatArcs.{instance_arcs, arc_count}
use Rattle.slew_order.proofs.flattening.all_arcs.Given as goal

abbrev pub invariant-loop-instance : goal.invariant-loop-instance
invariant-loop-instance g l = l.arcs.items ≡ joined_from (λ i. instance_arcs i (arc_count l.linked.netlist l.linked.cells i)) 0 l.instance
