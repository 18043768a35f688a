use Rattle.std.proofs.Common.{◌++◌, ◌∷◌, [], List, sym, ap, ◌∙◌, append_assoc}
use Rattle.hierarchy.specs.Walks.{joined_from}
use Rattle.netlist_link.specs.FlatNetlist.{EndOn, port_ends}
use Rattle.netlist_link.specs.KeptEnds.{flat_ends}
use Rattle.netlist_link.specs.PortRows.{kept_port}
use Rattle.netlist_link.proofs.EndLists.{port_ends-more}
use Rattle.netlist_link.proofs.net_ends.add_port_ends.Goals as goal

pub loop-p-preserved : goal.loop-p-preserved
loop-p-preserved c =
    let ports = c.args.ports.now in
    let p = c.loop-p.p in
    let old = flat_ends c.args.ends.now.items in
    let one = port_ends c.args.inputs p (kept_port ports p ∷ []) in
    c.in_ok-add_port_end.ensures ∙ ap (λ (l : List EndOn). l ++ one) c.loop-p.invariant
    ∙ append_assoc old (port_ends c.args.inputs 0 (joined_from (λ k. kept_port ports k ∷ []) 0 p)) one
    ∙ ap (λ (l : List EndOn). old ++ l) (sym (port_ends-more c.args.inputs ports p))
