use Rattle.netlist_link.specs.FlatBitTables.{HoldVisits}
use Rattle.netlist_link.proofs.flat_bits.flat_bits.Given as goal

abbrev pub invariant-loop-v : goal.invariant-loop-v
invariant-loop-v l = HoldVisits l.design l.v l.bits
