use Rattle.std.proofs.Common.{◌≡◌, ◌++◌, ◌∷◌, []}
use Rattle.hierarchy.specs.Walks.{joined_from}
use Rattle.netlist_link.specs.FlatNetlist.{port_ends}
use Rattle.netlist_link.specs.KeptEnds.{flat_ends}
use Rattle.netlist_link.specs.PortRows.{kept_port}
use Rattle.netlist_link.proofs.net_ends.add_port_ends.Given as goal

abbrev pub invariant-loop-p : goal.invariant-loop-p
invariant-loop-p l = flat_ends l.ends.items
    ≡ flat_ends l.fn.ends.items ++ port_ends l.inputs 0 (joined_from (λ k. kept_port l.ports k ∷ []) 0 l.p)
