use Rattle.std.proofs.Common.{◌≡◌, map, take}
use Rattle.cell_models.specs.CornerCells.{pins_at}
use Rattle.netlist_link.proofs.cell_pins.directions_of.Given as goal

abbrev pub invariant-loop-j : goal.invariant-loop-j
invariant-loop-j g l = l.directions.items ≡ map (λ pin. pin.direction) (take l.j (pins_at l.cell 0))
