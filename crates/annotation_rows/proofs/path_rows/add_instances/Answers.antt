use Rattle.std.proofs.Common.{◌+◌, length, ap, ◌∙◌, arith}
use Rattle.annotation_rows.specs.PathRows.{instance_rows}
use Rattle.annotation_rows.proofs.InstanceSteps.{instance_next, instances_part}
use Rattle.annotation_rows.proofs.PathLists.{paths_next}
use Rattle.annotation_rows.proofs.path_rows.add_instances.Goals as goal

-- src/path_rows.rt
pub loop-instance-preserved : goal.loop-instance-preserved
loop-instance-preserved g c = record {
  rows = paths_next (instance_rows c.args.design.now) c.loop-instance.instance c.args.rows.now c.loop-instance.rows _ c.loop-instance.invariant.rows c.in_ok-add_instance.ensures.rows;
  rise = c.in_ok-add_instance.ensures.rise;
  fall = c.in_ok-add_instance.ensures.fall;
  steps = instance_next c.args.design.now c.args.design.now.source.count c.loop-instance.instance c.args.steps.now c.loop-instance.steps _ c.loop-instance.invariant.steps c.add_instance.ensures.steps;
}

pub returns-in_err-add_instance-clause-steps : goal.returns-in_err-add_instance-clause-steps
returns-in_err-add_instance-clause-steps g c =
    let many = c.instance_count-instance-end.ensures.count ∙ ap (λ netlist. length netlist.instances) c.netlist.ensures.netlist in
    instances_part c.args.design.now c.args.design.now.source.count (c.loop-instance.instance + 1) c.args.steps.now c.add_instance.new.steps
    (omega (arith, c.loop-instance-test.true, c.loop-instance.auto.instance-end, many))
    (instance_next c.args.design.now c.args.design.now.source.count c.loop-instance.instance c.args.steps.now c.loop-instance.steps c.add_instance.new.steps
    c.loop-instance.invariant.steps c.add_instance.ensures.steps)
