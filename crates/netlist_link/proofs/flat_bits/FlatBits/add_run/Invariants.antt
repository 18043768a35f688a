use Rattle.std.proofs.Common.{ℕ, List, ◌++◌, map, Option}
use Rattle.verilog_netlist.specs.NetModules.{bits_from}
use Rattle.netlist_link.specs.FlatBits.{NetBit}
use Rattle.netlist_link.specs.FlatPins.{wired}
use Rattle.netlist_link.specs.PathTables.{top_of}
use Rattle.netlist_link.specs.BitTables.{path_of}
use Rattle.netlist_link.specs.FlatBitTables.{HoldBits}
use Rattle.netlist_link.proofs.flat_bits.FlatBits.add_run.Given as goal

abbrev pub invariant-loop-number : goal.invariant-loop-number
invariant-loop-number l = (started : ℕ) (targets : List (Option NetBit)) (nets : List NetBit) → HoldBits l.design started targets nets l.fn.self
    → HoldBits l.design started (targets ++ map (wired l.design.modules.now (top_of l.design.walk.now) (path_of l.design l.visit))
    (bits_from l.run.first l.number)) nets l.self
