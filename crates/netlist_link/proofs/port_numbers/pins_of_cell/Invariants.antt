use Rattle.std.proofs.Common.{map}
use Rattle.cell_models.specs.CornerCells.{pins_at}
use Rattle.netlist_link.specs.PortTables.{HoldsNamed, IsPinNamed}
use Rattle.netlist_link.proofs.port_numbers.pins_of_cell.Given as goal

abbrev pub invariant-loop-j : goal.invariant-loop-j
invariant-loop-j g l = HoldsNamed (IsPinNamed (map (λ pin. pin.name) (pins_at l.cell 0))) l.j l.numbers.entries
