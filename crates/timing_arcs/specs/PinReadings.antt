-- What a `pin` group says of each of its names.
use Rattle.std.specs.Prelude.{◌≡◌, ℕ, List, All, Some}
use Rattle.liberty_groups.specs.Tables.{Tables, tree_of, group_at}
use Rattle.liberty_groups.specs.declared.rows.GroupId.{GroupId}
use Rattle.timing_arcs.specs.declared.pins.PinReading.{PinReading}
use Rattle.timing_arcs.specs.PinModel.{direction_of, IsPinCapacitance}
use Rattle.timing_arcs.specs.PinTable.{entry_at}
use Rattle.timing_arcs.specs.CellFaults.{pin_questions, IsSound}

-- It is read off the group of this number, and no question of a pin of the group has a fault, whatever the pin's name.
pub record IsReadingOf (tree : Tables) (id : GroupId) (reading : PinReading) : Type 0 where
  pub group : reading.group ≡ id
  pub direction : direction_of (group_at tree id.0) ≡ Some reading.direction
  pub capacitance : IsPinCapacitance reading.direction (tree_of tree) (group_at tree id.0) reading.cap.0
  pub sound : (name : List ℕ) → All (IsSound (tree_of tree)) (pin_questions (entry_at tree name id))
