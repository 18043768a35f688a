use Rattle.std.proofs.Common.{◌≡◌, map, take}
use Rattle.cell_models.specs.CornerCells.{pins_at}
use Rattle.cell_models.specs.declared.cell.Pin.{Pin}
use Rattle.name_table.specs.SdfNames.{part}
use Rattle.annotation_rows.proofs.spelled_netlist.spell_pins.Given as goal

abbrev pub invariant-loop-pin : goal.invariant-loop-pin
invariant-loop-pin g l = l.pins ≡ map (λ (p : Pin). part p.name) (take l.pin (pins_at l.cell 0))
