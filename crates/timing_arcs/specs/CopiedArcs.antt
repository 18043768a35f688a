-- The arcs of the names of one `pin` group.
use Rattle.std.specs.Prelude.{ℕ, List, All, flat_map}
use Rattle.std.specs.List.{AllZip}
use Rattle.liberty_groups.specs.Groups.{Group}
use Rattle.cell_models.specs.declared.cell.Arc.{Arc}
use Rattle.timing_arcs.specs.PinModel.{PinEntry}
use Rattle.timing_arcs.specs.DelayGroups.{delays_in, arcs_in, IsArc}
use Rattle.timing_arcs.specs.LibraryBasis.{arc_from}
use Rattle.timing_arcs.specs.CellFaults.{delay_questions, IsSound}

-- the same arc, to another pin
abbrev pub led_to : ℕ → Arc → Arc
led_to to arc = arc_from arc.kind arc.rise arc.fall to arc.from

-- the arcs to a pin, of whose delay groups no question has a fault
pub record AreArcsTo (library : Group) (names : List (List ℕ)) (pins : List PinEntry) (entry : PinEntry) (arcs : List Arc) : Type 0 where
  pub sound : All (IsSound library) (flat_map (delay_questions pins) (delays_in entry))
  pub built : AllZip (IsArc library names) (flat_map (arcs_in pins) (delays_in entry)) arcs
