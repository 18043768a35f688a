-- How the nodes of a section are numbered one after another, by the section's own numbers.
use Rattle.std.specs.Prelude.{◌≡◌, ◌≢◌, ℕ, ◌+◌, ◌<◌, false, List, length, slice_get, slice_index, slice_index_or, slice_set, Some, AllPairs}
use Rattle.name_table.specs.declared.spef_names.NodeName.{NodeName}
use Rattle.name_table.specs.NodeKeys.{among}
use Rattle.rc_tree.specs.Nodes.{Node, node_of}

-- a node gets the next number, where it has none
pub data Marks (none node : ℕ) (spots : List ℕ) (count : ℕ) : List ℕ → ℕ → Type 0 where
  fresh : slice_index spots node ≡ none → count < none → Marks none node spots count (slice_set spots node count) (count + 1)
  held : slice_index spots node ≢ none → Marks none node spots count spots count

-- The nodes that are numbered so far: a name that has a number is that of the node of the number, and one that has none is that
-- of no node of them.
pub record Marked (none : ℕ) (names : List NodeName) (nodes : List Node) (spots : List ℕ) (count : ℕ) : Type 0 where
  pub size : length spots ≡ length names
  pub counted : count ≡ length nodes
  pub apart : AllPairs (λ one other. one ≢ other) nodes
  pub held : (i : ℕ) (d : NodeName) → i < length names → slice_index spots i ≢ none
      → slice_get nodes (slice_index spots i) ≡ Some (node_of (slice_index_or names i d))
  pub free : (i : ℕ) (d : NodeName) → i < length names → slice_index spots i ≡ none
      → among (node_of (slice_index_or names i d)) nodes ≡ false
