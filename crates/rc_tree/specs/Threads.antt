-- The resistors at each node, threaded from the last to the first.
use Rattle.std.specs.Prelude.{◌≡◌, ◌≢◌, ℕ, ◌-◌, ◌<◌, ◌≤◌, List, length, slice_index}

-- One more than the last of the first so many resistors that has an end at the node, by one end of each; 0 where none has.
pub record IsLatest (near : List ℕ) (many node latest : ℕ) : Type 0 where
  pub within : latest ≤ many
  pub here : 0 < latest → slice_index near (latest - 1) ≡ node
  pub rest : (place : ℕ) → latest ≤ place → place < many → slice_index near place ≢ node

-- each node has its last resistor, and each resistor the one before it at the same node
pub record IsThreaded (near : List ℕ) (nodes : ℕ) (heads nexts : List ℕ) : Type 0 where
  pub heads_len : length heads ≡ nodes
  pub nexts_len : length nexts ≡ length near
  pub heads_at : (node : ℕ) → node < nodes → IsLatest near (length near) node (slice_index heads node)
  pub nexts_at : (place : ℕ) → place < length near → IsLatest near place (slice_index near place) (slice_index nexts place)
