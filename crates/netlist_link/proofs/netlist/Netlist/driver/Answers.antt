use Rattle.std.proofs.Common.{Some, None, sym, ap, ◌∙◌, arith}
use Rattle.std.specs.Prelude.{option_map}
use Rattle.std.proofs.lemmas.List.{get_or_read}
use Rattle.netlist_link.specs.FlatEnds.{end_of}
use Rattle.netlist_link.specs.FlatNetlist.{FlatNet}
use Rattle.netlist_link.proofs.NetlistReading.{net_below, net_here}
use Rattle.netlist_link.proofs.netlist.Netlist.driver.Goals as goal

pub index-requires : goal.index-requires
index-requires c =
    let n = c.self.inside in
    let below = net_below c.args.self.now n.instances n.ports n.net_texts n.drivers.items n.sinks c.self.view_is c.args.n c.requires in
    let count = c.self.invariant.drivers_count in
    let ok = n.drivers.ok in
    omega arith

pub returns-in_err-driver : goal.returns-in_err-driver
returns-in_err-driver c =
    let n = c.self.inside in
    let below = net_below c.args.self.now n.instances n.ports n.net_texts n.drivers.items n.sinks c.self.view_is c.args.n c.requires in
    let count = c.self.invariant.drivers_count in
    let here = get_or_read n.drivers.items c.args.n c.index.result.now (omega arith) c.index.ensures None in
    let whole = sym (ap (λ (net : FlatNet). net.driver) (net_here c.args.self.now n.instances n.ports n.net_texts n.drivers.items n.sinks c.self.view_is c.args.n c.requires)) in
    c.from_residual.ensures ∙ ap (option_map end_of) (sym c.in_err-driver.was ∙ here) ∙ whole

pub returns : goal.returns
returns c =
    let n = c.self.inside in
    let below = net_below c.args.self.now n.instances n.ports n.net_texts n.drivers.items n.sinks c.self.view_is c.args.n c.requires in
    let count = c.self.invariant.drivers_count in
    let here = get_or_read n.drivers.items c.args.n c.index.result.now (omega arith) c.index.ensures None in
    let whole = sym (ap (λ (net : FlatNet). net.driver) (net_here c.args.self.now n.instances n.ports n.net_texts n.drivers.items n.sinks c.self.view_is c.args.n c.requires)) in
    ap Some c.end.ensures ∙ ap (option_map end_of) (sym c.in_ok-driver.was ∙ here) ∙ whole
