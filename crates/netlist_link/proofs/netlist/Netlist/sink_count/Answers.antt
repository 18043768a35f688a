use Rattle.std.proofs.Common.{length, sym, ap, ◌∙◌, arith}
use Rattle.std.proofs.lemmas.List.{length-map}
use Rattle.netlist_link.specs.FlatEnds.{end_of}
use Rattle.netlist_link.specs.FlatNetlist.{FlatNet}
use Rattle.netlist_link.specs.NetlistTables.{kept_ends}
use Rattle.netlist_link.proofs.Counting.{count_few}
use Rattle.netlist_link.proofs.NetlistReading.{net_below, net_here, kept_ends_are}
use Rattle.netlist_link.proofs.netlist.Netlist.sink_count.Goals as goal

pub count-requires : goal.count-requires
count-requires c =
    let n = c.self.inside in
    record {
      nets = length n.net_texts;
      ends = c.self.invariant.driven;
      is = c.self.invariant.sinks_are;
      below = net_below c.args.self.now n.instances n.ports n.net_texts n.drivers.items n.sinks c.self.view_is c.args.n c.requires;
    }

pub returns-clause-count : goal.returns-clause-count
returns-clause-count c =
    let n = c.self.inside in
    let i = c.self.invariant in
    let below = net_below c.args.self.now n.instances n.ports n.net_texts n.drivers.items n.sinks c.self.view_is c.args.n c.requires in
    let kept = kept_ends_are (length n.net_texts) i.driven n.sinks i.sinks_are c.args.n below in
    let whole = net_here c.args.self.now n.instances n.ports n.net_texts n.drivers.items n.sinks c.self.view_is c.args.n c.requires in
    c.count.ensures (length n.net_texts) i.driven i.sinks_are below
    ∙ sym (ap (λ (net : FlatNet). length net.sinks) whole ∙ length-map (kept_ends n.sinks c.args.n) end_of ∙ ap length kept)

pub returns-clause-few : goal.returns-clause-few
returns-clause-few c =
    let n = c.self.inside in
    let i = c.self.invariant in
    let below = net_below c.args.self.now n.instances n.ports n.net_texts n.drivers.items n.sinks c.self.view_is c.args.n c.requires in
    let kept = kept_ends_are (length n.net_texts) i.driven n.sinks i.sinks_are c.args.n below in
    let whole = net_here c.args.self.now n.instances n.ports n.net_texts n.drivers.items n.sinks c.self.view_is c.args.n c.requires in
    let count = c.count.ensures (length n.net_texts) i.driven i.sinks_are below in
    let few = count_few c.args.n i.driven in
    let most = i.few_ends in
    omega arith
