use Rattle.std.proofs.Common.{List}
use Rattle.cell_models.specs.NamedSets.{NamedCells}
use Rattle.hierarchy.specs.Walks.{joined_from}
use Rattle.netlist_link.specs.FlatBits.{ports_of_name}
use Rattle.netlist_link.specs.PathTables.{top_of}
use Rattle.netlist_link.specs.PortRows.{HoldsPorts}
use Rattle.netlist_link.proofs.ports.top_ports.Given as goal

abbrev pub invariant-loop-i : goal.invariant-loop-i
invariant-loop-i l = (cells : List NamedCells)
    → HoldsPorts l.design cells (joined_from (ports_of_name l.design.modules.now (top_of l.design.walk.now)) 0 l.i) l.ports
