-- What stands at one corner in a grid of values, and what does not change in the others.
use Rattle.std.specs.Prelude.{◌≡◌, ◌≢◌, ℕ, ◌+◌, ◌*◌, ◌<◌, ◌≤◌, List, length, slice_index, slice_index_or}
use Rattle.delay_units.specs.declared.quantities.Farads.{Farads}
use Rattle.delay_units.specs.declared.quantities.Ohms.{Ohms}
use Rattle.spef_nets.specs.NetElements.{NetElements as SectionElements}
use Rattle.delay_units.specs.Bounds.{most_ohms}
use Rattle.rc_tree.specs.Arenas.{most_elements, most_load}
use Rattle.rc_tree.specs.Sums.{sum_below}
use Rattle.rc_tree.specs.Pins.{Pins}
use Rattle.rc_tree.specs.Values.{farads_at, ohms_at}
use Rattle.rc_tree.specs.Numbering.{section_farads, sink_farads}
use Rattle.rc_tree.specs.declared.node_ids.NodeId.{NodeId}

-- as many values, and those of the other corners as they were
pub record KeepsOhms (count : ℕ) (before after : List Ohms) (number : ℕ) : Type 0 where
  pub size : length after ≡ length before
  pub others : (row other : ℕ) → other < count → other ≢ number → ohms_at count after row other ≡ ohms_at count before row other

pub record KeepsFarads (count : ℕ) (before after : List Farads) (number : ℕ) : Type 0 where
  pub size : length after ≡ length before
  pub others : (row other : ℕ) → other < count → other ≢ number → farads_at count after row other ≡ farads_at count before row other

-- the nodes of a tree: each with its parent, and with the resistor of the section that links it there; where the section's nodes
-- and the sinks stand in it
pub record Layout : Type 0 where
  pub parents : List ℕ
  pub vias : List ℕ
  pub spots : List ℕ
  pub sinks : List NodeId

pub record IsLayout (section : SectionElements) (pins : Pins) (layout : Layout) : Type 0 where
  pub some : 0 < length layout.parents
  pub few : length layout.parents ≤ most_elements + 1
  pub down : (node : ℕ) → 0 < node → node < length layout.parents → slice_index layout.parents node < node
  pub vias_len : length layout.vias ≡ length layout.parents
  pub vias : (node : ℕ) → 0 < node → node < length layout.parents → slice_index layout.vias node < length section.joints
  pub spots_len : length layout.spots ≡ length section.nodes
  pub spots : (node : ℕ) → node < length section.nodes → slice_index layout.spots node < length layout.parents
  pub sinks_len : length layout.sinks ≡ length pins.sinks
  pub sinks : (sink : ℕ) → sink < length layout.sinks → (slice_index_or layout.sinks sink (record { 0 = 0 })).0 < length layout.parents
  pub caps : length section.caps + length layout.sinks ≤ 2 * most_elements

-- the values of the links, and all the capacitance at each node
pub record IsFilled (count : ℕ) (section : SectionElements) (pins : Pins) (layout : Layout) (ohms : List Ohms) (farads : List Farads)
    (number : ℕ) : Type 0 where
  pub root : ohms_at count ohms 0 number ≡ 0
  pub links : (node : ℕ) → 0 < node → node < length layout.parents
      → ohms_at count ohms node number ≡ ohms_at count section.ohms (slice_index layout.vias node) number
  pub nodes : (node : ℕ) → node < length layout.parents
      → farads_at count farads node number ≡ section_farads count section layout.spots number node + sink_farads count pins
      layout.sinks number node
  pub within : (place : ℕ) → place < length section.caps → slice_index section.caps place < length section.nodes
  pub small : (node : ℕ) → node < length layout.parents → ohms_at count ohms node number ≤ most_ohms
  pub load : sum_below (length layout.parents) (λ node. farads_at count farads node number) ≤ most_load
