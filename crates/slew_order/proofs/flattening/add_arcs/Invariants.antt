use Rattle.std.proofs.Common.{◌≡◌, ◌++◌}
use Rattle.slew_order.specs.FlatArcs.{instance_arcs}
use Rattle.slew_order.proofs.flattening.add_arcs.Given as goal

abbrev pub invariant-loop-arc : goal.invariant-loop-arc
invariant-loop-arc l = l.arcs.items ≡ l.fn.arcs.items ++ instance_arcs l.fn.instance l.arc
