-- The arcs to the pins so far, and where those to the last of them begin.
use Rattle.std.proofs.Common.{◌≡◌, ◌<◌, ◌-◌, take, drop, [], Some, slice_get}
use Rattle.std.specs.List.{flat_map}
use Rattle.liberty_groups.specs.Tables.{tree_of}
use Rattle.timing_arcs.specs.PinModel.{PinEntry}
use Rattle.timing_arcs.specs.PinTable.{entries_in}
use Rattle.timing_arcs.specs.DelayGroups.{arcs_in, delays_in}
use Rattle.timing_arcs.specs.LibraryBasis.{AreAdded}
use Rattle.timing_arcs.specs.CopiedArcs.{AreArcsTo}
use Rattle.timing_arcs.specs.CellFaults.{delay_questions}
use Rattle.timing_arcs.proofs.building.read_arcs.Given as goal

abbrev pub invariant-loop-to : goal.invariant-loop-to
invariant-loop-to l = record {
  added : AreAdded (tree_of l.cell.tree) l.cell.names (flat_map (λ entry. flat_map (arcs_in (entries_in l.cell.tree l.cell.names l.cell.groups)) (delays_in entry)) (take l.to (entries_in l.cell.tree l.cell.names l.cell.groups)))
      (flat_map (λ entry. flat_map (delay_questions (entries_in l.cell.tree l.cell.names l.cell.groups)) (delays_in entry)) (take l.to (entries_in l.cell.tree l.cell.names l.cell.groups))) [] l.arcs.items;
  last : 0 < l.to → (entry : PinEntry) → slice_get (entries_in l.cell.tree l.cell.names l.cell.groups) (l.to - 1) ≡ Some entry
      → AreArcsTo (tree_of l.cell.tree) l.cell.names (entries_in l.cell.tree l.cell.names l.cell.groups) entry (drop l.start l.arcs.items);
}
