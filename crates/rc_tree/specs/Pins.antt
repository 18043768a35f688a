-- The pins of a net: its driver, and its sinks with their loads.
use Rattle.std.specs.Prelude.{◌≡◌, ◌≢◌, ℕ, ◌*◌, ◌≤◌, List, ◌∷◌, length, map, take, drop, All, AllPairs}
use Rattle.delay_units.specs.declared.quantities.Farads.{Farads}
use Rattle.name_table.specs.declared.spef_names.NodeName.{NodeName}
use Rattle.rc_tree.specs.Nodes.{Node, node_of}
use Rattle.delay_units.specs.Bounds.{most_farads}

pub record Pins : Type 0 where
  pub driver : NodeName
  pub sinks : List NodeName
  -- the load of each sink, at each corner
  pub loads : List Farads

-- the nodes of the pins, the driver's first
abbrev pub pin_nodes : Pins → List Node
pin_nodes pins = node_of pins.driver ∷ map node_of pins.sinks

-- the values of a row, one a corner
abbrev pub row_of : ℕ → List Farads → ℕ → List Farads
row_of count values row = take count (drop (row * count) values)

-- each sink has its loads, no two pins are one node, and no load is past the bound
pub record AreSound (count : ℕ) (pins : Pins) : Type 0 where
  pub rows : length pins.loads ≡ length pins.sinks * count
  pub apart : AllPairs (λ one other. one ≢ other) (pin_nodes pins)
  pub small : All (λ load. load.0 ≤ most_farads) pins.loads
