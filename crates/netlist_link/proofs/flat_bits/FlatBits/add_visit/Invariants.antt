use Rattle.netlist_link.specs.FlatBitTables.{HoldNames}
use Rattle.netlist_link.proofs.flat_bits.FlatBits.add_visit.Given as goal

abbrev pub invariant-loop-i : goal.invariant-loop-i
invariant-loop-i l = HoldNames l.design l.v l.i l.self
