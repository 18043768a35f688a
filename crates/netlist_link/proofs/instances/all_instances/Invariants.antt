use Rattle.std.proofs.Common.{◌≡◌, map}
use Rattle.netlist_link.specs.FlatNames.{instance_text}
use Rattle.netlist_link.specs.PathTables.{top_of}
use Rattle.netlist_link.specs.Designs.{OverCells}
use Rattle.netlist_link.specs.InstanceRows.{mets_before, HoldInstances}
use Rattle.netlist_link.proofs.instances.all_instances.Given as goal

abbrev pub invariant-loop-i : goal.invariant-loop-i
invariant-loop-i l = record {
  texts : l.instances.names.texts ≡ map (instance_text l.design.modules.now (top_of l.design.walk.now)) (mets_before l.design l.i);
  kept : OverCells l.design (HoldInstances l.design (mets_before l.design l.i) l.instances);
}
