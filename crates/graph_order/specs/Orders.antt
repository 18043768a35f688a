-- Orders and cycles of a graph. Its nodes are the numbers below a bound. Its links are numbered from 0, and each leads from the
-- node at its place in the list of sources to the node at its place in the list of targets.
use Rattle.std.specs.Prelude.{◌≡◌, ◌≢◌, ℕ, ◌<◌, ◌≤◌, List, [], ◌∷◌, length, slice_index, All}

-- A walk from one node to another: a list of links, of which the first begins at the one node, each ends where the next
-- begins, and the last ends at the other node. The empty walk leads from a node to itself.
abbrev pub IsWalk : List ℕ → List ℕ → ℕ → List ℕ → ℕ → Type 0
IsWalk sources targets a [] b = a ≡ b
IsWalk sources targets a (link ∷ walk) b =
    (link < length sources) × (slice_index sources link ≡ a) × IsWalk sources targets (slice_index targets link) walk b

-- a walk of at least one link from a node back to it
abbrev pub IsCycle : List ℕ → List ℕ → ℕ → List ℕ → Type 0
IsCycle sources targets node cycle = (0 < length cycle) × IsWalk sources targets node cycle node

-- the links lead round a cycle, which begins at its least node
abbrev pub IsCycleFromLeast : List ℕ → List ℕ → List ℕ → Type 0
IsCycleFromLeast sources targets cycle =
    (node : ℕ) × IsCycle sources targets node cycle × All (λ link. node ≤ slice_index sources link) cycle

-- the node stands in the list before this place
abbrev pub StandsBefore : List ℕ → ℕ → ℕ → Type 0
StandsBefore order place node = (j : ℕ) × (j < place) × (slice_index order j ≡ node)

-- each node stands once in the list, and behind each source of a link that ends at it
pub record IsOrder (nodes : ℕ) (sources targets order : List ℕ) : Type 0 where
  pub within : (place : ℕ) → place < length order → slice_index order place < nodes
  pub all : (node : ℕ) → node < nodes → StandsBefore order (length order) node
  pub once : (j k : ℕ) → j < k → k < length order → slice_index order j ≢ slice_index order k
  pub after : (link k : ℕ) → link < length sources → k < length order → slice_index targets link ≡ slice_index order k
      → StandsBefore order k (slice_index sources link)

-- where the nodes stand in an order there is no cycle
abbrev pub OrderLaw : ℕ → List ℕ → List ℕ → List ℕ → Type 0
OrderLaw nodes sources targets order = IsOrder nodes sources targets order → All (λ node. node < nodes) sources
    → (node : ℕ) (cycle : List ℕ) → IsCycle sources targets node cycle → ⊥
