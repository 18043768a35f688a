use Rattle.std.proofs.Common.{List, length, get_or, sym, ap, ◌∙◌, arith}
use Rattle.std.proofs.lemmas.List.{get_or-map, length-map}
use Rattle.netlist_link.specs.FlatEnds.{end_of}
use Rattle.netlist_link.specs.FlatNetlist.{FlatNet}
use Rattle.netlist_link.specs.Grouping.{kept_at}
use Rattle.netlist_link.specs.NetlistTables.{kept_ends}
use Rattle.netlist_link.specs.declared.ends.End.TheVariants as end
use Rattle.netlist_link.specs.declared.grouping.KeptEnd.{KeptEnd}
use Rattle.netlist_link.specs.declared.grouping.KeptEnd.TheVariants.{Port}
use Rattle.netlist_link.proofs.NetlistReading.{net_below, net_here, kept_ends_are}
use Rattle.netlist_link.proofs.netlist.Netlist.sink.Goals as goal

pub on-requires : goal.on-requires
on-requires c =
    let n = c.self.inside in
    record {
      nets = length n.net_texts;
      ends = c.self.invariant.driven;
      is = c.self.invariant.sinks_are;
      below = net_below c.args.self.now n.instances n.ports n.net_texts n.drivers.items n.sinks c.self.view_is c.args.n c.requires.net;
    }

pub end_at-requires : goal.end_at-requires
end_at-requires c =
    let n = c.self.inside in
    let i = c.self.invariant in
    let below = net_below c.args.self.now n.instances n.ports n.net_texts n.drivers.items n.sinks c.self.view_is c.args.n c.requires.net in
    let kept = kept_ends_are (length n.net_texts) i.driven n.sinks i.sinks_are c.args.n below in
    let whole = net_here c.args.self.now n.instances n.ports n.net_texts n.drivers.items n.sinks c.self.view_is c.args.n c.requires.net in
    let on = ap length (c.on.ensures (length n.net_texts) i.driven i.sinks_are below) in
    let many = ap (λ (net : FlatNet). length net.sinks) whole ∙ length-map (kept_ends n.sinks c.args.n) end_of ∙ ap length kept in
    let sink = c.requires.sink in
    omega arith

pub returns : goal.returns
returns c =
    let n = c.self.inside in
    let i = c.self.invariant in
    let below = net_below c.args.self.now n.instances n.ports n.net_texts n.drivers.items n.sinks c.self.view_is c.args.n c.requires.net in
    let kept = kept_ends_are (length n.net_texts) i.driven n.sinks i.sinks_are c.args.n below in
    let whole = net_here c.args.self.now n.instances n.ports n.net_texts n.drivers.items n.sinks c.self.view_is c.args.n c.requires.net in
    let many = ap (λ (net : FlatNet). length net.sinks) whole ∙ length-map (kept_ends n.sinks c.args.n) end_of in
    let sink = c.requires.sink in
    c.end_at.ensures ∙ ap (λ (l : List KeptEnd). end_of (kept_at l c.args.k)) (c.on.ensures (length n.net_texts) i.driven i.sinks_are below ∙ sym kept)
    ∙ sym (ap (λ (net : FlatNet). get_or net.sinks c.args.k (end.Port 0)) whole
    ∙ get_or-map end_of (kept_ends n.sinks c.args.n) c.args.k (Port 0) (end.Port 0) (omega arith))
