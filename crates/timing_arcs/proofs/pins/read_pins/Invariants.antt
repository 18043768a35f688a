-- The pins so far, of which no question has a fault; and what the group of the last of them says.
use Rattle.std.proofs.Common.{take, IfSome}
use Rattle.std.specs.List.{flat_map, All, AllZip}
use Rattle.liberty_groups.specs.Tables.{tree_of}
use Rattle.timing_arcs.specs.PinModel.{IsPin}
use Rattle.timing_arcs.specs.PinReadings.{IsReadingOf}
use Rattle.timing_arcs.specs.PinTable.{entries_in}
use Rattle.timing_arcs.specs.CellFaults.{pin_questions, IsSound}
use Rattle.timing_arcs.specs.declared.pins.PinReading.{PinReading}
use Rattle.timing_arcs.proofs.pins.read_pins.Given as goal

abbrev pub invariant-loop-place : goal.invariant-loop-place
invariant-loop-place l = record {
  pins : AllZip (IsPin (tree_of l.tree)) (take l.place (entries_in l.tree l.table.names l.table.groups.items)) l.pins.items;
  sound : All (IsSound (tree_of l.tree)) (flat_map pin_questions (take l.place (entries_in l.tree l.table.names l.table.groups.items)));
  last : IfSome l.last (λ (reading : PinReading). IsReadingOf l.tree reading.group reading);
}
