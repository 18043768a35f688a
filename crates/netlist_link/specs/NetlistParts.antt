-- The parts of a flat netlist, before its nets are joined to their ends.
use Rattle.std.specs.Prelude.{List}
use Rattle.cell_models.specs.NamedSets.{NamedCells}
use Rattle.netlist_link.specs.Clashes.{AreNamed, texts_of_nets, texts_of_instances}
use Rattle.netlist_link.specs.InstanceTables.{instances_in, AreInstanceTables}
use Rattle.netlist_link.specs.Links.{AreInstances, ArePorts}
use Rattle.netlist_link.specs.PathTables.{top_of}
use Rattle.netlist_link.specs.PortRows.{ports_in, ArePortTables}
use Rattle.netlist_link.specs.declared.assembling.NetlistParts.{NetlistParts}
use Rattle.netlist_link.specs.declared.checking.Design.{Design}

-- the nets have their names, which differ; and the instances and the ports are those of the design
pub record AreParts (d : Design) (parts : NetlistParts) (cells : List NamedCells) : Type 0 where
  pub net_names : AreNamed (texts_of_nets d) parts.net_texts
  pub instance_names : AreNamed (texts_of_instances d) parts.instances.names.texts
  pub instance_tables : AreInstanceTables parts.instances
  pub instances : AreInstances d.modules.now (top_of d.walk.now) cells (instances_in parts.instances)
  pub port_tables : ArePortTables parts.ports
  pub ports : ArePorts d.modules.now (top_of d.walk.now) cells (ports_in parts.ports)
