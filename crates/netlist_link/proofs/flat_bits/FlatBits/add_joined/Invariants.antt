use Rattle.std.proofs.Common.{ℕ, List, ◌++◌, map, take, Option}
use Rattle.verilog_netlist.specs.NetModules.{bits_in}
use Rattle.netlist_link.specs.FlatBits.{NetBit}
use Rattle.netlist_link.specs.FlatPins.{wired}
use Rattle.netlist_link.specs.PathTables.{top_of, visit_at}
use Rattle.netlist_link.specs.BitTables.{path_of}
use Rattle.netlist_link.specs.FlatBitTables.{HoldBits, connection_of}
use Rattle.netlist_link.proofs.flat_bits.FlatBits.add_joined.Given as goal

abbrev pub invariant-loop-r : goal.invariant-loop-r
invariant-loop-r l = (started : ℕ) (targets : List (Option NetBit)) (nets : List NetBit) → HoldBits l.design started targets nets l.fn.self
    → HoldBits l.design started (targets ++ map (wired l.design.modules.now (top_of l.design.walk.now)
    (path_of l.design (visit_at l.design.walk.now l.v).parent)) (bits_in (take l.r (connection_of l.design l.v l.c).runs))) nets l.self
