-- The rows that annotate the wires of nets with their delays.
use Rattle.std.specs.Prelude.{◌≡◌, ℕ, ◌^◌, List, pos}
use Rattle.std.specs.List.{AllZip}
use Rattle.delay_units.specs.declared.Femto.{Femto}
use Rattle.delay_units.specs.Rounding.{IsRounding}
use Rattle.name_table.specs.declared.spef_names.NodeName.{NodeName}
use Rattle.rc_tree.specs.NetElements.{NetElements}
use Rattle.rc_tree.specs.Nodes.{Node}
use Rattle.rc_tree.specs.Elmore.{IsElmore}
use Rattle.sdf_writer.specs.SdfText.{WireRow}

-- the wire from the driver of a net to one of its sinks: their names, the node of the net that the sink is on, and the net's elements at
-- each corner
pub record Wire : Type 0 where
  pub driver : NodeName
  pub sink : NodeName
  pub at : Node
  pub corners : List (NetElements Node)

-- a node's Elmore delay, rounded once to a femtosecond
abbrev pub IsWireDelay : Node → NetElements Node → Femto → Type 0
IsWireDelay node net delay = (elmore : ℕ) × IsElmore net node elmore × IsRounding (pos elmore) (pos (10 ^ 12)) delay.0

-- the row of a wire: its driver and its sink as they are spelled in SDF, and its delays, one a corner
pub record IsAnnotationRow (wire : Wire) (row : WireRow) : Type 0 where
  pub from : row.from ≡ wire.driver.sdf
  pub to : row.to ≡ wire.sink.sdf
  pub delay : AllZip (IsWireDelay wire.at) wire.corners row.delay

-- the rows of these wires, one each, in order
abbrev pub AreAnnotationRows : List Wire → List WireRow → Type 0
AreAnnotationRows wires rows = AllZip IsAnnotationRow wires rows
