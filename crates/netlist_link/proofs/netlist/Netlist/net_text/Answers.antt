use Rattle.std.proofs.Common.{[], sym, ap, ◌∙◌}
use Rattle.std.proofs.lemmas.Option.{get_or_from_slice_get}
use Rattle.netlist_link.specs.FlatNetlist.{FlatNet}
use Rattle.netlist_link.proofs.NetlistReading.{net_below, net_here}
use Rattle.netlist_link.proofs.netlist.Netlist.net_text.Goals as goal

pub text-requires : goal.text-requires
text-requires c =
    let n = c.self.inside in
    net_below c.args.self.now n.instances n.ports n.net_texts n.drivers.items n.sinks c.self.view_is c.args.n c.requires

pub returns : goal.returns
returns c =
    let n = c.self.inside in
    sym (get_or_from_slice_get n.net_texts c.args.n c.text.result.now [] c.text.ensures)
    ∙ sym (ap (λ (net : FlatNet). net.text) (net_here c.args.self.now n.instances n.ports n.net_texts n.drivers.items n.sinks c.self.view_is c.args.n c.requires))
