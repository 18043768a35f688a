use Rattle.std.proofs.Common.{◌≡◌, ◌++◌, ◌∷◌, [], List, Bool, length}
use Rattle.cell_models.specs.NamedSets.{NamedCells}
use Rattle.cell_models.specs.declared.cell.Direction.{Direction}
use Rattle.cell_models.specs.declared.cell.Direction.TheVariants.{Input, Output}
use Rattle.hierarchy.specs.Walks.{joined_from}
use Rattle.netlist_link.specs.FlatNetlist.{instance_ends}
use Rattle.netlist_link.specs.InstanceTables.{kept_instance}
use Rattle.netlist_link.specs.JointTables.{AreAllPins}
use Rattle.netlist_link.specs.KeptEnds.{flat_ends, Selects}
use Rattle.netlist_link.proofs.net_ends.add_instance_ends.Given as goal

abbrev pub invariant-loop-i : goal.invariant-loop-i
invariant-loop-i l = record {
  driving : (cells : List NamedCells) (test : Direction → Bool) → AreAllPins cells (length cells) l.design.pins.now → Selects test Output
      → flat_ends l.driving.items ≡ flat_ends l.fn.driving.items ++ instance_ends cells test 0 (joined_from (λ k. kept_instance l.instances k ∷ []) 0 l.i);
  driven : (cells : List NamedCells) (test : Direction → Bool) → AreAllPins cells (length cells) l.design.pins.now → Selects test Input
      → flat_ends l.driven.items ≡ flat_ends l.fn.driven.items ++ instance_ends cells test 0 (joined_from (λ k. kept_instance l.instances k ∷ []) 0 l.i);
}
