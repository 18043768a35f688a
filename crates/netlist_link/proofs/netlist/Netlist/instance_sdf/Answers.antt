use Rattle.std.proofs.Common.{[], sym, ap, ◌∙◌, arith}
use Rattle.std.proofs.lemmas.Option.{get_or_from_slice_get}
use Rattle.netlist_link.specs.FlatNetlist.{FlatInstance}
use Rattle.netlist_link.proofs.NetlistReading.{instance_below, instance_here}
use Rattle.netlist_link.proofs.netlist.Netlist.instance_sdf.Goals as goal

pub spelling-requires : goal.spelling-requires
spelling-requires c =
    let n = c.self.inside in
    let below = instance_below c.args.self.now n.instances n.ports n.net_texts n.drivers.items n.sinks c.self.view_is c.args.i c.requires in
    let count = c.self.invariant.instances_are.spellings_count in
    omega arith

pub returns : goal.returns
returns c =
    let n = c.self.inside in
    sym (get_or_from_slice_get n.instances.names.spellings c.args.i c.spelling.result.now [] c.spelling.ensures)
    ∙ sym (ap (λ (instance : FlatInstance). instance.sdf)
    (instance_here c.args.self.now n.instances n.ports n.net_texts n.drivers.items n.sinks c.self.view_is c.args.i c.requires))
