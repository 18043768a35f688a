-- The timing model of a cell (Liberty, cell): its pins, and the delay arcs between them.
use Rattle.std.specs.Prelude.{◌≡◌, ◌≢◌, ℕ, ◌⊎◌, pos, ◌≤ℤ◌, List, map, slice_get, Some, None, All, IfSome}
use Rattle.name_table.specs.Names.{AreDistinct}
use Rattle.cell_models.specs.declared.cell.Direction.{Direction}
use Rattle.cell_models.specs.declared.cell.Direction.TheVariants.{Input, Output}
use Rattle.cell_models.specs.declared.cell.Pin.{Pin}
use Rattle.cell_models.specs.declared.cell.EdgeTables.{EdgeTables}
use Rattle.cell_models.specs.declared.cell.Arc.{Arc}

-- the pins and the arcs of a cell, each numbered by its place
pub record TimedCell : Type 0 where
  pub pins : List Pin
  pub arcs : List Arc

-- the pin at a place has this direction
pub record HasDirection (pins : List Pin) (place : ℕ) (direction : Direction) : Type 0 where
  pub pin : Pin
  pub here : slice_get pins place ≡ Some pin
  pub directed : pin.direction ≡ direction

-- no transition is below 0
abbrev pub IsSettled : EdgeTables → Type 0
IsSettled tables = All (λ value. pos 0 ≤ℤ value) tables.slew.values

-- an arc leads from an input pin to an output pin, and has a rise or a fall
pub record IsArcOf (pins : List Pin) (arc : Arc) : Type 0 where
  pub from : HasDirection pins arc.from Input
  pub to : HasDirection pins arc.to Output
  pub some : (arc.rise ≢ None) ⊎ (arc.fall ≢ None)
  pub rise : IfSome arc.rise IsSettled
  pub fall : IfSome arc.fall IsSettled

-- what every timing model keeps
pub record IsCell (cell : TimedCell) : Type 0 where
  pub distinct : AreDistinct (map (λ pin. pin.name) cell.pins)
  pub arcs : All (IsArcOf cell.pins) cell.arcs
