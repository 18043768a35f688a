-- The arcs of the groups so far.
use Rattle.std.proofs.Common.{◌≡◌, Some, take}
use Rattle.std.specs.List.{slice_get, flat_map}
use Rattle.liberty_groups.specs.Groups.{groups_of}
use Rattle.liberty_groups.specs.Tables.{tree_of}
use Rattle.timing_arcs.specs.PinModel.{PinEntry}
use Rattle.timing_arcs.specs.PinTable.{entries_in}
use Rattle.timing_arcs.specs.LibraryBasis.{AreAdded, arcs_from, questions_from}
use Rattle.timing_arcs.proofs.delay_groups.add_groups.Given as goal

abbrev pub invariant-loop-place : goal.invariant-loop-place
invariant-loop-place l = (entry : PinEntry) → slice_get (entries_in l.cell.tree l.cell.names l.cell.groups) l.to ≡ Some entry
    → AreAdded (tree_of l.cell.tree) l.cell.names (flat_map (arcs_from (entries_in l.cell.tree l.cell.names l.cell.groups) entry.name) (take l.place (groups_of entry.group)))
    (flat_map (questions_from (entries_in l.cell.tree l.cell.names l.cell.groups) entry.name) (take l.place (groups_of entry.group))) l.initial.arcs.items l.arcs.items
