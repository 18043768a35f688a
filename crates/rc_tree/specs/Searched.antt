-- A net whose nodes are numbered, and whose resistors are searched from the driver's node.
use Rattle.std.specs.Prelude.{◌≡◌, ◌≢◌, ℕ, ◌-◌, ◌<◌, ◌++◌, List, length, map, slice_get, slice_index, slice_index_or, Some, AllPairs}
use Rattle.name_table.specs.declared.spef_names.NodeName.{NodeName}
use Rattle.spef_nets.specs.NetElements.{NetElements as SectionElements}
use Rattle.rc_tree.specs.Nodes.{Node, node_of, first_places}
use Rattle.rc_tree.specs.Pins.{Pins, pin_nodes}
use Rattle.rc_tree.specs.SectionNets.{sink_node}
use Rattle.rc_tree.specs.Numbering.{AreSpots, AreEnds}
use Rattle.rc_tree.specs.Searches.{Search, IsSearch, IsClosed}
use Rattle.rc_tree.specs.Builds.{IsFirstSpelling, names}
use Rattle.rc_tree.specs.declared.node_ids.NodeId.{NodeId}

-- all nodes of the pins and of a section, by first place
abbrev pub all_nodes : SectionElements → Pins → List Node
all_nodes section pins = first_places (pin_nodes pins ++ map node_of section.nodes)

-- each node of a section has its number among all nodes, of which there are so many
pub record IsNumbered (section : SectionElements) (pins : Pins) (spots : List ℕ) (count : ℕ) : Type 0 where
  pub are_spots : AreSpots section.nodes (all_nodes section pins) spots
  pub counted : count ≡ length (all_nodes section pins)
  pub apart : AllPairs (λ one other. one ≢ other) (all_nodes section pins)

-- the resistors of a section were searched from node 0, where its nodes have these numbers
pub record IsExplored (section : SectionElements) (spots : List ℕ) (count : ℕ) (s : Search) : Type 0 where
  pub froms : List ℕ
  pub tos : List ℕ
  pub are_ends : AreEnds section spots froms tos
  pub search : IsSearch count froms tos s
  pub closed : IsClosed froms tos s

-- a net whose nodes are numbered and searched
pub record Searched (section : SectionElements) (pins : Pins) (nodes : List Node) (spots froms tos : List ℕ) (s : Search) : Type 0 where
  pub some : 0 < length section.joints
  pub numbered : nodes ≡ all_nodes section pins
  pub apart : AllPairs (λ one other. one ≢ other) nodes
  pub are_spots : AreSpots section.nodes nodes spots
  pub are_ends : AreEnds section spots froms tos
  pub search : IsSearch (length nodes) froms tos s
  pub closed : IsClosed froms tos s

-- the first written name of the node of a number
abbrev pub IsNameAt : SectionElements → Pins → ℕ → NodeName → Type 0
IsNameAt section pins number name = IsFirstSpelling (names section pins) name × (slice_get (all_nodes section pins) number ≡ Some (node_of name))

-- each sink stands where the search has its node, whose number gives one more than its place
abbrev pub AreSinks : SectionElements → Pins → List ℕ → List NodeId → Type 0
AreSinks section pins numbers sinks = (k : ℕ) → k < length pins.sinks
    → (number : ℕ) × (slice_get (all_nodes section pins) number ≡ Some (sink_node pins k))
    × ((slice_index_or sinks k (record { 0 = 0 })).0 ≡ slice_index numbers number - 1)

-- every node is found, and each resistor is the link of one
pub record IsComplete (s : Search) : Type 0 where
  pub nodes : (k : ℕ) → k < length s.numbers → 0 < slice_index s.numbers k
  pub links : (k : ℕ) → k < length s.links → 0 < slice_index s.links k
