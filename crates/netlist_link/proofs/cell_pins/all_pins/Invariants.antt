use Rattle.std.specs.Prelude.{ℕ, ◌<◌}
use Rattle.name_table.specs.Names.{AreDistinct}
use Rattle.netlist_link.specs.FlatPins.{pins_of}
use Rattle.netlist_link.specs.JointTables.{AreAllPins, pin_names}
use Rattle.netlist_link.proofs.cell_pins.all_pins.Given as goal

abbrev pub invariant-loop-c : goal.invariant-loop-c
invariant-loop-c g l = AreAllPins l.cells l.c l.pins.items × ((c : ℕ) → c < l.c → AreDistinct (pin_names (pins_of l.cells c)))
