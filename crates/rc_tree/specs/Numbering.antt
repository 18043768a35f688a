-- The nodes of a section, its resistors and its capacitances by other numbers of the nodes.
use Rattle.std.specs.Prelude.{◌≡◌, ℕ, ◌+◌, ◌*◌, ◌<◌, false, List, [], ◌∷◌, ◌++◌, length, slice_get, slice_index, slice_index_or, Some}
use Rattle.name_table.specs.NodeKeys.{among}
use Rattle.name_table.specs.declared.spef_names.NodeName.{NodeName}
use Rattle.spef_nets.specs.NetElements.{NetElements as SectionElements}
use Rattle.rc_tree.specs.Nodes.{Node, node_of}
use Rattle.rc_tree.specs.SectionNets.{joint_at}
use Rattle.rc_tree.specs.Sums.{sum_below, one}
use Rattle.rc_tree.specs.Values.{farads_at}
use Rattle.rc_tree.specs.Pins.{Pins}
use Rattle.rc_tree.specs.declared.node_ids.NodeId.{NodeId}

-- each node of the section has its place in the list of nodes
pub record AreSpots (names : List NodeName) (nodes : List Node) (spots : List ℕ) : Type 0 where
  pub size : length spots ≡ length names
  pub each : (number : ℕ) (d : NodeName) → number < length names
      → slice_get nodes (slice_index spots number) ≡ Some (node_of (slice_index_or names number d))

-- a node gets a number behind those of others: a pin has its own place, and another node gets the next number
pub data Gets (pins : List Node) (node : Node) (count : ℕ) (spots spots' : List ℕ) (count' : ℕ) : Type 0 where
  pin : (number : ℕ) → slice_get pins number ≡ Some node → spots' ≡ spots ++ number ∷ [] → count' ≡ count
      → Gets pins node count spots spots' count'
  other : among node pins ≡ false → spots' ≡ spots ++ count ∷ [] → count' ≡ count + 1
      → Gets pins node count spots spots' count'

-- the ends of each resistor, by the numbers of its nodes
pub record AreEnds (section : SectionElements) (spots froms tos : List ℕ) : Type 0 where
  pub froms_len : length froms ≡ length section.joints
  pub tos_len : length tos ≡ length section.joints
  pub from : (place : ℕ) → place < length froms → ((joint_at section place).a < length section.nodes)
      × (slice_index froms place ≡ slice_index spots (joint_at section place).a)
  pub to : (place : ℕ) → place < length tos → ((joint_at section place).b < length section.nodes)
      × (slice_index tos place ≡ slice_index spots (joint_at section place).b)

-- the capacitance that the section has at a row of its nodes, and that the sinks have
abbrev pub section_farads : ℕ → SectionElements → List ℕ → ℕ → ℕ → ℕ
section_farads count section spots number row =
    sum_below (length section.caps)
    (λ place. one (slice_index spots (slice_index section.caps place)) row * farads_at count section.farads place number)

abbrev pub sink_farads : ℕ → Pins → List NodeId → ℕ → ℕ → ℕ
sink_farads count pins sinks number row =
    sum_below (length sinks) (λ sink. one (slice_index_or sinks sink (record { 0 = 0 })).0 row * farads_at count pins.loads sink number)
