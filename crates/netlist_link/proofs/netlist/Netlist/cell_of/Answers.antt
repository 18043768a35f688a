use Rattle.std.proofs.Common.{sym, ap, ◌∙◌, arith}
use Rattle.std.proofs.lemmas.List.{get_or_read}
use Rattle.netlist_link.specs.FlatNetlist.{FlatInstance}
use Rattle.netlist_link.specs.InstanceTables.{no_row}
use Rattle.netlist_link.specs.declared.instances.InstanceRow.{InstanceRow}
use Rattle.netlist_link.proofs.NetlistReading.{instance_below, instance_here}
use Rattle.netlist_link.proofs.netlist.Netlist.cell_of.Goals as goal

pub index-requires : goal.index-requires
index-requires c =
    let n = c.self.inside in
    let below = instance_below c.args.self.now n.instances n.ports n.net_texts n.drivers.items n.sinks c.self.view_is c.args.i c.requires in
    let ok = n.instances.rows.ok in
    omega arith

pub returns : goal.returns
returns c =
    let n = c.self.inside in
    let below = instance_below c.args.self.now n.instances n.ports n.net_texts n.drivers.items n.sinks c.self.view_is c.args.i c.requires in
    let row = get_or_read n.instances.rows.items c.args.i c.index.result.now below c.index.ensures no_row in
    ap (λ (r : InstanceRow). r.cell) row ∙ sym (ap (λ (instance : FlatInstance). instance.cell) (instance_here c.args.self.now n.instances n.ports n.net_texts n.drivers.items n.sinks c.self.view_is c.args.i c.requires))
