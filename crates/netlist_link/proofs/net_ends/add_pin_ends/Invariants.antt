use Rattle.std.proofs.Common.{◌≡◌, ◌++◌, List, Bool, length, take}
use Rattle.cell_models.specs.NamedSets.{NamedCells}
use Rattle.cell_models.specs.declared.cell.Direction.{Direction}
use Rattle.cell_models.specs.declared.cell.Direction.TheVariants.{Input, Output}
use Rattle.netlist_link.specs.FlatNetlist.{pin_ends}
use Rattle.netlist_link.specs.FlatPins.{pins_of}
use Rattle.netlist_link.specs.InstanceTables.{row_at, kept_instance}
use Rattle.netlist_link.specs.JointTables.{AreAllPins}
use Rattle.netlist_link.specs.KeptEnds.{flat_ends, Selects}
use Rattle.netlist_link.proofs.net_ends.add_pin_ends.Given as goal

abbrev pub invariant-loop-j : goal.invariant-loop-j
invariant-loop-j l = record {
  driving : (cells : List NamedCells) (test : Direction → Bool) → AreAllPins cells (length cells) l.design.pins.now → Selects test Output
      → flat_ends l.driving.items ≡ flat_ends l.fn.driving.items
      ++ pin_ends test l.i 0 (take l.j (pins_of cells (row_at l.instances l.i).cell)) (take l.j (kept_instance l.instances l.i).nets);
  driven : (cells : List NamedCells) (test : Direction → Bool) → AreAllPins cells (length cells) l.design.pins.now → Selects test Input
      → flat_ends l.driven.items ≡ flat_ends l.fn.driven.items
      ++ pin_ends test l.i 0 (take l.j (pins_of cells (row_at l.instances l.i).cell)) (take l.j (kept_instance l.instances l.i).nets);
}
