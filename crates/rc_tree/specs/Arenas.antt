-- A tree as it is kept: its nodes numbered so that a parent comes before its children, the driver's first.
use Rattle.std.specs.Prelude.{◌≡◌, ℕ, ◌+◌, ◌-◌, ◌*◌, ◌^◌, ◌<◌, ◌≤◌, ◌==◌, if◌then◌else◌, List, length, map, slice_index, Option, Some, None, All}
use Rattle.std.specs.List.{range_with_len}
use Rattle.delay_units.specs.Bounds.{most_farads, most_ohms}
use Rattle.delay_units.specs.declared.quantities.Farads.{Farads}
use Rattle.delay_units.specs.declared.quantities.Ohms.{Ohms}
use Rattle.rc_tree.specs.NetElements.{NetElements}
use Rattle.rc_tree.specs.NetLoad.{net_load}
use Rattle.rc_tree.specs.Values.{farads_at, ohms_at}
use Rattle.rc_tree.specs.declared.node_ids.NodeId.{NodeId}

pub record Arena : Type 0 where
  -- the parent of each node; that of the first is not read
  pub parents : List ℕ
  -- the resistance between each node and its parent, and the capacitance at each node, at each corner
  pub ohms : List Ohms
  pub farads : List Farads
  -- the nodes of the sinks
  pub sinks : List NodeId

abbrev pub node_count : Arena → ℕ
node_count arena = length arena.parents

-- the number of a node's parent
abbrev pub parent_of : Arena → ℕ → ℕ
parent_of arena node = slice_index arena.parents node

-- the first node has none
abbrev pub parent_at : Arena → ℕ → Option NodeId
parent_at arena node = if node == 0 then None else Some (record { 0 = parent_of arena node })

-- The elements of a tree at a corner: a resistor from the parent of each node past the first to the node, and a capacitance at
-- each node.
abbrev pub arena_elements : ℕ → Arena → ℕ → NetElements ℕ
arena_elements count arena number = record {
  driver = 0;
  others = range_with_len 1 (node_count arena - 1);
  resistors = map (λ node. record { from = parent_of arena node; to = node; ohms = ohms_at count arena.ohms node number })
      (range_with_len 1 (node_count arena - 1));
  capacitances = map (λ node. record { node = node; farads = farads_at count arena.farads node number })
      (range_with_len 0 (node_count arena));
}

-- how many resistors a net may have, and how many written capacitances and pins together
abbrev pub most_elements : ℕ
most_elements = 2 ^ 19

-- a written capacitance counts at two nodes at most
abbrev pub most_load : ℕ
most_load = 2 ^ 20 * most_farads

-- what a tree keeps to; one with no node is no tree
pub record IsArena (count : ℕ) (arena : Arena) : Type 0 where
  pub few : node_count arena ≤ most_elements + 1
  pub ohms_rows : length arena.ohms ≡ node_count arena * count
  pub farads_rows : length arena.farads ≡ node_count arena * count
  pub down : (node : ℕ) → 0 < node → node < node_count arena → parent_of arena node < node
  pub root : (number : ℕ) → number < count → ohms_at count arena.ohms 0 number ≡ 0
  pub small_ohms : (node number : ℕ) → node < node_count arena → number < count → ohms_at count arena.ohms node number ≤ most_ohms
  pub small_load : (number : ℕ) → number < count → net_load (arena_elements count arena number) ≤ most_load
  pub sinks : All (λ sink. sink.0 < node_count arena) arena.sinks
