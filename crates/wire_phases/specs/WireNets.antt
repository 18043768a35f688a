-- The nets of a file, in its order: each gives a row for each of its wires, or is refused.
use Rattle.std.specs.Prelude.{◌≡◌, ℕ, ◌<◌, ◌==◌, Bool, if◌then◌else◌, List, [], ◌∷◌, ◌++◌, filter, map, slice_get, Some, Result, Ok, Err}
use Rattle.std.specs.List.{range_with_len}
use Rattle.name_table.specs.declared.spef_names.NodeName.{NodeName}
use Rattle.sdf_writer.specs.SdfText.{WireRow, SdfRows}
use Rattle.spef_nets.specs.NetElements.{NetElements}
use Rattle.spef_nets.specs.declared.parts.Listed.{Listed}
use Rattle.rc_tree.specs.Nodes.{node_of}
use Rattle.rc_tree.specs.Pins.{Pins}
use Rattle.rc_tree.specs.ListedPins.{listed_pins}
use Rattle.rc_tree.specs.RcTree.{IsTree}
use Rattle.rc_tree.specs.SectionNets.{net_elements, on_net}
use Rattle.rc_tree.specs.Builds.{IsFit, IsTreeEnd}
use Rattle.rc_tree.specs.declared.ends.TreeEnd.TheVariants as tree
use Rattle.wire_phases.specs.AnnotationRows.{Wire, AreAnnotationRows}
use Rattle.wire_phases.specs.SpefPhases.{DesignNets}
use Rattle.refusals.specs.declared.refusal.LimitKind.TheVariants.{Net}
use Rattle.refusals.specs.declared.refusal.Refusal.{Refusal}
use Rattle.refusals.specs.declared.refusal.Refusal.TheVariants.{Unreached, Mesh, Limit, NoDriver, ManyDrivers}

-- an output of an instance drives its net, and so does an input of the design
abbrev pub drives : Listed → Bool
drives conn = if conn.port then conn.direction == 73 else conn.direction == 79

-- the wires of a net with these pins, one for each sink, at so many corners
abbrev pub wires_of : ℕ → NetElements → Pins → List Wire
wires_of count net pins = map (λ sink. record {
  driver = pins.driver;
  sink = sink;
  at = on_net net pins (node_of sink);
  corners = map (net_elements count net pins) (range_with_len 0 count);
}) pins.sinks

-- the connection at this place drives the net, and no other does
pub record HasDriver (net : NetElements) (place : ℕ) : Type 0 where
  pub driver : Listed
  pub stands : slice_get net.conns place ≡ Some driver
  pub sole : filter drives net.conns ≡ driver ∷ []

-- A net with these pins has no tree: it is too large, or a node of it is not reached, or its resistors close a loop.
pub data IsNoTree (count : ℕ) (net : NetElements) (pins : Pins) : Refusal → Type 0 where
  too_large : IsTreeEnd count net pins tree.TooLarge → IsNoTree count net pins (Limit (Net net.net))
  unreached : (node : NodeName) → IsTreeEnd count net pins (tree.Unreached node) → IsNoTree count net pins (Unreached net.net node)
  mesh : (resistor : ℕ) → IsTreeEnd count net pins (tree.Mesh resistor) → IsNoTree count net pins (Mesh net.net resistor)

-- A net gives the rows of its wires at so many corners, or is refused: no connection drives it, or several do, or it has no tree. All
-- connections but the one that drives are its sinks.
pub data NetGives (count : ℕ) (net : NetElements) : Result (List WireRow) Refusal → Type 0 where
  no_driver : filter drives net.conns ≡ [] → NetGives count net (Err (NoDriver net.net))
  many_drivers : (one other : Listed) (others : List Listed) → filter drives net.conns ≡ one ∷ other ∷ others
      → NetGives count net (Err (ManyDrivers net.net))
  no_tree : (driver : ℕ) (refusal : Refusal) → HasDriver net driver → IsNoTree count net (listed_pins count net driver) refusal
      → NetGives count net (Err refusal)
  is_tree : (driver : ℕ) (rows : List WireRow) → HasDriver net driver → IsFit net (listed_pins count net driver)
      → ((number : ℕ) → number < count → IsTree (net_elements count net (listed_pins count net driver) number))
      → AreAnnotationRows (wires_of count net (listed_pins count net driver)) rows → NetGives count net (Ok rows)

-- the nets, up to the first that is refused
pub data NetsGive (count : ℕ) : List NetElements → Result (List WireRow) Refusal → Type 0 where
  no_net : NetsGive count [] (Ok [])
  and_net : {nets : List NetElements} {rows more : List WireRow} {net : NetElements} → NetsGive count nets (Ok rows)
      → NetGives count net (Ok more) → NetsGive count (nets ++ net ∷ []) (Ok (rows ++ more))
  refused : {nets : List NetElements} {rows : List WireRow} {net : NetElements} {refusal : Refusal} (later : List NetElements)
      → NetsGive count nets (Ok rows) → NetGives count net (Err refusal) → NetsGive count (nets ++ net ∷ later) (Err refusal)

-- the rows of a design's nets, those of wires alone
abbrev pub RowsOf : ℕ → DesignNets → Result SdfRows Refusal → Type 0
RowsOf count design (Ok rows) = (rows.design ≡ design.design) × NetsGive count design.nets (Ok rows.wires) × (rows.paths ≡ [])
RowsOf count design (Err refusal) = NetsGive count design.nets (Err refusal)
