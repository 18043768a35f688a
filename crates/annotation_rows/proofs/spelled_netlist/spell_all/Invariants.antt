use Rattle.std.proofs.Common.{◌≡◌, map, take}
use Rattle.cell_models.specs.NamedSets.{set_cells}
use Rattle.annotation_rows.specs.SdfEnds.{spelled_pins}
use Rattle.annotation_rows.proofs.spelled_netlist.spell_all.Given as goal

abbrev pub invariant-loop-cell : goal.invariant-loop-cell
invariant-loop-cell g l = l.pins.items ≡ map spelled_pins (take l.cell (set_cells l.cells))
