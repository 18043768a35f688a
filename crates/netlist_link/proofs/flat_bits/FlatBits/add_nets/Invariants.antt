use Rattle.std.proofs.Common.{ℕ, List, ◌++◌, map, Option, Some}
use Rattle.netlist_link.specs.FlatBits.{NetBit}
use Rattle.netlist_link.specs.FlatBitTables.{HoldBits}
use Rattle.netlist_link.proofs.KeepingSteps.{own_bits}
use Rattle.netlist_link.proofs.flat_bits.FlatBits.add_nets.Given as goal

abbrev pub invariant-loop-bit : goal.invariant-loop-bit
invariant-loop-bit l = (started : ℕ) (targets : List (Option NetBit)) (nets : List NetBit) → HoldBits l.design started targets nets l.fn.self
    → HoldBits l.design started (targets ++ map Some (own_bits l.design l.visit l.name l.bit)) (nets ++ own_bits l.design l.visit l.name l.bit) l.self
