-- What is made of a net: a tree, or the reason why it has none.
use Rattle.std.specs.Prelude.{◌≡◌, ◌≢◌, ℕ, ◌<◌, ◌↔◌, List, ◌∷◌, ◌++◌, length, slice_index, slice_index_or, slice_get, Some, All, AllPairs}
use Rattle.name_table.specs.declared.spef_names.NodeName.{NodeName}
use Rattle.spef_nets.specs.NetElements.{NetElements as SectionElements}
use Rattle.rc_tree.specs.NetElements.{NetElements, NetResistor, nodes_of}
use Rattle.rc_tree.specs.Walk.{ReachedWithout, HasEnds}
use Rattle.rc_tree.specs.RcTree.{IsUnreached, IsMesh, IsTree}
use Rattle.rc_tree.specs.Elmore.{IsElmore}
use Rattle.rc_tree.specs.NetLoad.{net_load}
use Rattle.rc_tree.specs.Nodes.{Node, node_of}
use Rattle.rc_tree.specs.Pins.{Pins, pin_nodes}
use Rattle.rc_tree.specs.Values.{ohms_at}
use Rattle.rc_tree.specs.Arenas.{Arena, node_count, parent_of, arena_elements}
use Rattle.rc_tree.specs.SectionNets.{net_elements, sink_node, on_net, AreListed, IsFirstStrange, IsTooLarge}
use Rattle.rc_tree.specs.declared.ends.TreeEnd.{TreeEnd}
use Rattle.rc_tree.specs.declared.ends.TreeEnd.TheVariants.{StrangePin, TooLarge, Unreached, Mesh, OutOfMemory}

-- each connection is a pin, and there are not too many elements
abbrev pub IsFit : SectionElements → Pins → Type 0
IsFit section pins = AreListed section (pin_nodes pins) × (IsTooLarge section pins → ⊥)

-- without the resistor at this place every node is still reached
abbrev pub CutsNothing : NetElements Node → ℕ → Type 0
CutsNothing net place = All (ReachedWithout net place) (nodes_of net)

-- how the names of a net's nodes are written, those of the pins first
abbrev pub names : SectionElements → Pins → List NodeName
names section pins = (pins.driver ∷ pins.sinks) ++ section.nodes

-- a name is the first of these that is one of its node
pub record IsFirstSpelling (spellings : List NodeName) (name : NodeName) : Type 0 where
  pub place : ℕ
  pub here : slice_get spellings place ≡ Some name
  pub earlier : (k : ℕ) (other : NodeName) → k < place → slice_get spellings k ≡ Some other → node_of other ≢ node_of name

-- Why a net has no tree, at each corner. Want of memory alone may come at any time.
abbrev pub IsTreeEnd : ℕ → SectionElements → Pins → TreeEnd → Type 0
IsTreeEnd count section pins (StrangePin name) = IsFirstStrange section (pin_nodes pins) name
IsTreeEnd count section pins TooLarge = AreListed section (pin_nodes pins) × IsTooLarge section pins
IsTreeEnd count section pins (Unreached name) = IsFit section pins × IsFirstSpelling (names section pins) name
    × ((number : ℕ) → number < count → IsUnreached (net_elements count section pins number) (node_of name))
IsTreeEnd count section pins (Mesh place) = IsFit section pins × (place < length section.joints)
    × ((number : ℕ) → number < count → IsMesh (net_elements count section pins number)
    × CutsNothing (net_elements count section pins number) place)
IsTreeEnd count section pins OutOfMemory = Unit {0}

-- The resistor at a place of the section links a node of the tree to its parent: it has its ends at the two nodes of the net, and
-- its resistance is that of the link. Here order is the list of the net's nodes in the order of the tree.
pub record IsLink (count : ℕ) (section : SectionElements) (pins : Pins) (arena : Arena) (order : List Node)
    (place node number : ℕ) : Type 0 where
  pub resistor : NetResistor Node
  pub stands : slice_get (net_elements count section pins number).resistors place ≡ Some resistor
  pub ends : HasEnds resistor (slice_index_or order (parent_of arena node) (node_of pins.driver))
      (slice_index_or order node (node_of pins.driver))
  pub ohms : ohms_at count arena.ohms node number ≡ resistor.ohms

-- The nodes of the net in the order of the tree: one for each node of the tree, the driver's first, none of them twice, and that of
-- each sink at the place that the tree has for the sink.
pub record IsOrder (section : SectionElements) (pins : Pins) (arena : Arena) (order : List Node) : Type 0 where
  pub every : length order ≡ node_count arena
  pub first : slice_get order 0 ≡ Some (node_of pins.driver)
  pub apart : AllPairs (λ one other. one ≢ other) order
  pub sinks : (sink : ℕ) → sink < length pins.sinks
      → slice_get order (slice_index_or arena.sinks sink (record { 0 = 0 })).0 ≡ Some (on_net section pins (sink_node pins sink))

-- every resistor of the net is the link of exactly one node of the tree
pub record AreLinked (count : ℕ) (section : SectionElements) (pins : Pins) (arena : Arena) : Type 0 where
  pub order : List Node
  pub ordered : IsOrder section pins arena order
  pub vias : List ℕ
  pub links : (node number : ℕ) → 0 < node → node < node_count arena → number < count
      → IsLink count section pins arena order (slice_index vias node) node number
  pub each : (place : ℕ) → place < length section.joints → (node : ℕ) × (0 < node) × (node < node_count arena)
      × (slice_index vias node ≡ place)
      × ((other : ℕ) → 0 < other → other < node_count arena → slice_index vias other ≡ place → other ≡ node)

-- a node of the tree has the Elmore delays of a node of the net
abbrev pub SameDelays : NetElements ℕ → ℕ → NetElements Node → Node → Type 0
SameDelays tree at net node = (delay : ℕ) → IsElmore tree at delay ↔ IsElmore net node delay

-- The tree is that of the net: the net is a tree at each corner, and the tree has its nodes, its links, its load and its delays at each
-- pin.
pub record IsTreeOf (count : ℕ) (section : SectionElements) (pins : Pins) (arena : Arena) : Type 0 where
  pub fit : IsFit section pins
  pub some : 0 < node_count arena
  pub tree : (number : ℕ) → number < count → IsTree (net_elements count section pins number)
  pub links : AreLinked count section pins arena
  pub sinks : length arena.sinks ≡ length pins.sinks
  pub load : (number : ℕ) → number < count
      → net_load (arena_elements count arena number) ≡ net_load (net_elements count section pins number)
  pub driver : (number : ℕ) → number < count
      → SameDelays (arena_elements count arena number) 0 (net_elements count section pins number) (node_of pins.driver)
  pub delays : (number sink : ℕ) → number < count → sink < length pins.sinks
      → SameDelays (arena_elements count arena number) (slice_index_or arena.sinks sink (record { 0 = 0 })).0
      (net_elements count section pins number) (on_net section pins (sink_node pins sink))
