use Rattle.std.proofs.Common.{[], sym, ap, ◌∙◌, arith}
use Rattle.std.proofs.lemmas.Option.{get_or_from_slice_get}
use Rattle.netlist_link.specs.FlatNetlist.{FlatInstance}
use Rattle.netlist_link.proofs.NetlistReading.{instance_below, instance_here}
use Rattle.netlist_link.proofs.netlist.Netlist.instance_text.Goals as goal

pub text-requires : goal.text-requires
text-requires c =
    let n = c.self.inside in
    let below = instance_below c.args.self.now n.instances n.ports n.net_texts n.drivers.items n.sinks c.self.view_is c.args.i c.requires in
    let count = c.self.invariant.instances_are.texts_count in
    omega arith

pub returns : goal.returns
returns c =
    let n = c.self.inside in
    sym (get_or_from_slice_get n.instances.names.texts c.args.i c.text.result.now [] c.text.ensures)
    ∙ sym (ap (λ (instance : FlatInstance). instance.text)
    (instance_here c.args.self.now n.instances n.ports n.net_texts n.drivers.items n.sinks c.self.view_is c.args.i c.requires))
