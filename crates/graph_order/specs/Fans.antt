-- The links at each node, by one of their ends, chained from the last to the first.
use Rattle.std.specs.Prelude.{◌≡◌, ◌≢◌, ℕ, ◌<◌, ◌≤◌, suc, List, length, slice_index, slice_index_or, Option, Some, None}

-- how many links stand up to this one; 0 for none
abbrev pub links_to : Option ℕ → ℕ
links_to None = 0
links_to (Some link) = suc link

-- the last of the first so many links that is at a node, or none
pub record IsLatest (keys : List ℕ) (many node : ℕ) (latest : Option ℕ) : Type 0 where
  pub within : links_to latest ≤ many
  pub here : (link : ℕ) → links_to latest ≡ suc link → slice_index keys link ≡ node
  pub rest : (link : ℕ) → links_to latest ≤ link → link < many → slice_index keys link ≢ node

-- each node has its last link, and each link the one before it at the same node
pub record IsFan (keys : List ℕ) (nodes : ℕ) (last previous : List (Option ℕ)) : Type 0 where
  pub last_len : length last ≡ nodes
  pub previous_len : length previous ≡ length keys
  pub last_at : (node : ℕ) → node < nodes → IsLatest keys (length keys) node (slice_index_or last node None)
  pub previous_at : (link : ℕ) → link < length keys → IsLatest keys link (slice_index keys link) (slice_index_or previous link None)

-- each link has the one before it at the same node
abbrev pub ArePrevious : List ℕ → List (Option ℕ) → Type 0
ArePrevious keys previous = (length previous ≡ length keys)
    × ((link : ℕ) → link < length keys → IsLatest keys link (slice_index keys link) (slice_index_or previous link None))
