use Rattle.netlist_link.specs.CellPlaces.{HoldCellPlaces}
use Rattle.netlist_link.proofs.cell_places.cell_places.Given as goal

abbrev pub invariant-loop-n : goal.invariant-loop-n
invariant-loop-n l = HoldCellPlaces l.cell_names l.names l.n l.places.items
