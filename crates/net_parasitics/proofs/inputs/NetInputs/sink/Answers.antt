use Rattle.std.proofs.Common.{◌<◌, length, sym, subst}
use Rattle.netlist_link.specs.FlatNetlist.{net_at}
use Rattle.netlist_link.specs.declared.ends.End.TheVariants.{Port}
use Rattle.net_parasitics.specs.Inputs.{Inputs}
use Rattle.net_parasitics.specs.NetPins.{IsEnd}
use Rattle.net_parasitics.proofs.NodeNames.{sink_is_end}
use Rattle.net_parasitics.proofs.inputs.NetInputs.sink.Goals as goal

-- src/inputs.rt
pub returns-clause-end : goal.returns-clause-end
returns-clause-end g c =
    let back = sym c.self.view_is in
    let net = subst (λ (i : Inputs). c.args.net < length i.netlist.nets) back c.requires.net in
    let within = subst (λ (i : Inputs). c.args.sink < length (net_at i.netlist c.args.net).sinks) back c.requires.within in
    subst (λ (i : Inputs). IsEnd i.netlist i.cells c.sink.result) c.self.view_is
    (subst (IsEnd c.self.inside.linked.now.netlist c.self.inside.linked.now.cells) (sym c.sink.ensures)
    (sink_is_end c.self.inside.linked.now.cells c.self.inside.linked.now.netlist c.args.net c.args.sink (Port 0) c.self.invariant.linked net within))
