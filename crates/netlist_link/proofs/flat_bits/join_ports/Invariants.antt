use Rattle.netlist_link.specs.FlatBitTables.{HoldJoined}
use Rattle.netlist_link.proofs.flat_bits.join_ports.Given as goal

abbrev pub invariant-loop-c : goal.invariant-loop-c
invariant-loop-c l = HoldJoined l.design l.v l.c l.joined
