use Rattle.std.proofs.Common.{sym, ap, ◌∙◌, arith}
use Rattle.netlist_link.specs.FlatNetlist.{FlatPort}
use Rattle.netlist_link.proofs.NetlistReading.{port_below, port_here}
use Rattle.netlist_link.proofs.netlist.Netlist.port_text.Goals as goal

pub text_at-requires : goal.text_at-requires
text_at-requires c =
    let n = c.self.inside in
    let below = port_below c.args.self.now n.instances n.ports n.net_texts n.drivers.items n.sinks c.self.view_is c.args.p c.requires in
    let count = c.self.invariant.ports_are.texts_count in
    omega arith

pub returns : goal.returns
returns c =
    let n = c.self.inside in
    c.text_at.ensures ∙ sym (ap (λ (port : FlatPort). port.text) (port_here c.args.self.now n.instances n.ports n.net_texts n.drivers.items n.sinks c.self.view_is c.args.p c.requires))
