use Rattle.std.proofs.Common.{◌++◌, ap, ◌∙◌, arith}
use Rattle.slew_order.specs.FlatArcs.{instance_arcs, arc_count}
use Rattle.slew_order.proofs.Joined.{joined_next}
use Rattle.slew_order.proofs.Links.{arcs_there}
use Rattle.slew_order.proofs.flattening.all_arcs.Goals as goal

-- src/flattening.rt
pub loop-instance-preserved : goal.loop-instance-preserved
loop-instance-preserved g c = joined_next (λ i. instance_arcs i (arc_count c.args.linked.now.netlist c.args.linked.now.cells i)) c.loop-instance.instance c.loop-instance.arcs.items _
    c.loop-instance.invariant (c.in_ok-add_arcs.ensures ∙ ap (λ k. c.loop-instance.arcs.items ++ instance_arcs c.loop-instance.instance k) c.arc_count.ensures)

pub returns-clause-there : goal.returns-clause-there
returns-clause-there g c = arcs_there c.args.linked.now.cells c.args.linked.now.netlist c.args.linked.now.linked c.loop-instance.arcs.items c.loop-instance.instance
    (omega (arith, c.loop-instance-test.false, c.loop-instance.auto.instance-end, c.instance_count-instance-end.ensures.count)) c.loop-instance.invariant
