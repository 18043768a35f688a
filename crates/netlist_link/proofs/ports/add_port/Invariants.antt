use Rattle.std.proofs.Common.{◌∷◌, []}
use Rattle.hierarchy.specs.Walks.{joined_from}
use Rattle.netlist_link.specs.PortRows.{AddsPorts, top_bit}
use Rattle.netlist_link.proofs.ports.add_port.Given as goal

abbrev pub invariant-loop-bit : goal.invariant-loop-bit
invariant-loop-bit l = AddsPorts l.design (joined_from (λ b. top_bit l.i b ∷ []) 0 l.bit) l.fn.ports l.ports
