use Rattle.netlist_link.proofs.PartsOfNetlist.{net_names_end, instance_names_end}
use Rattle.netlist_link.proofs.FaultlessJoints.{faultless_joints}
use Rattle.netlist_link.proofs.assembling.parts_of.Goals as goal

pub returns-in-Err-clause-refused : goal.returns-in-Err-clause-refused
returns-in-Err-clause-refused c = net_names_end c.args.design.now (faultless_joints c.args.design.now _ _ _ c.requires.joints) c.in-Err.end c.in-Err.ensures.refused

pub returns-in-Err-flat_instances-clause-refused : goal.returns-in-Err-flat_instances-clause-refused
returns-in-Err-flat_instances-clause-refused c = instance_names_end c.args.design.now (faultless_joints c.args.design.now _ _ _ c.requires.joints)
    c.in-Ok.net_texts c.in-Ok.ensures.named c.in-Err-flat_instances.end c.in-Err-flat_instances.ensures.refused

pub returns-clause-parts : goal.returns-clause-parts
returns-clause-parts c = λ cells is distinct. record {
  net_names = c.in-Ok.ensures.named;
  instance_names = c.in-Ok-flat_instances.ensures.named;
  instance_tables = c.in-Ok-flat_instances.ensures.tables;
  instances = c.in-Ok-flat_instances.ensures.instances cells is distinct;
  port_tables = c.in_ok-ports.ensures.tables;
  ports = c.in_ok-ports.ensures.are cells;
}
