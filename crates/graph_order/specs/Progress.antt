-- How far an ordering has come. A node waits for a link into it, or for none.
use Rattle.std.specs.Prelude.{◌≡◌, ◌≢◌, ℕ, ◌<◌, ◌≤◌, suc, List, length, slice_index, slice_index_or, Option, None}
use Rattle.graph_order.specs.Orders.{StandsBefore}
use Rattle.graph_order.specs.Fans.{links_to}

-- one more than the link that the node waits for; 0 for none
abbrev pub wait_of : List (Option ℕ) → ℕ → ℕ
wait_of waits node = links_to (slice_index_or waits node None)

-- of the first so many nodes those that wait for no link stand in the order, each once
pub record AreFree (started : ℕ) (order : List ℕ) (waits : List (Option ℕ)) : Type 0 where
  pub within : (place : ℕ) → place < length order → slice_index order place < started
  pub once : (j k : ℕ) → j < k → k < length order → slice_index order j ≢ slice_index order k
  pub free : (place : ℕ) → place < length order → wait_of waits (slice_index order place) ≡ 0
  pub placed : (node : ℕ) → node < started → wait_of waits node ≡ 0 → StandsBefore order (length order) node

-- The nodes that wait for no link stand in the order, behind the sources of the links into them. A node waits for a link into it,
-- and the sources of all later links into it do not wait.
pub record IsWaiting (nodes : ℕ) (sources targets order : List ℕ) (waits : List (Option ℕ)) : Type 0 where
  pub waits_len : length waits ≡ nodes
  pub placed : AreFree nodes order waits
  pub after : (link k : ℕ) → link < length sources → k < length order → slice_index targets link ≡ slice_index order k
      → StandsBefore order k (slice_index sources link)
  pub here : (node link : ℕ) → node < nodes → wait_of waits node ≡ suc link
      → (link < length targets) × (slice_index targets link ≡ node)
  pub above : (node link : ℕ) → node < nodes → 0 < wait_of waits node → wait_of waits node ≤ link → link < length targets
      → slice_index targets link ≡ node → wait_of waits (slice_index sources link) ≡ 0

-- no node waits for a link
abbrev pub IsPassed : List ℕ → List (Option ℕ) → ℕ → Type 0
IsPassed targets waits link = wait_of waits (slice_index targets link) ≢ suc link

-- no node waits for a link from one of the first so many nodes of the order
abbrev pub ArePassed : List ℕ → List ℕ → List ℕ → List (Option ℕ) → ℕ → Type 0
ArePassed sources targets order waits head = (j link : ℕ) → j < head → j < length order → link < length sources
    → slice_index sources link ≡ slice_index order j → IsPassed targets waits link

-- what stays: the front of the order, and the links that are passed and begin at a node that does not wait
pub record Goes (sources targets order : List ℕ) (waits : List (Option ℕ)) (order' : List ℕ) (waits' : List (Option ℕ)) : Type 0 where
  pub longer : length order ≤ length order'
  pub same : (place : ℕ) → place < length order → slice_index order' place ≡ slice_index order place
  pub kept : (link : ℕ) → link < length sources → wait_of waits (slice_index sources link) ≡ 0 → IsPassed targets waits link
      → IsPassed targets waits' link
  pub free : (node : ℕ) → wait_of waits node ≡ 0 → wait_of waits' node ≡ 0

-- a link before this one into the same node, or none, so that the sources of all links between them into that node do not wait
pub record IsEarlier (sources targets : List ℕ) (waits : List (Option ℕ)) (link : ℕ) (next : Option ℕ) : Type 0 where
  pub within : links_to next ≤ link
  pub here : (found : ℕ) → links_to next ≡ suc found → slice_index targets found ≡ slice_index targets link
  pub rest : (other : ℕ) → links_to next ≤ other → other < link → slice_index targets other ≡ slice_index targets link
      → wait_of waits (slice_index sources other) ≡ 0

-- nothing is left to pass: the source of each link that a node waits for waits too
abbrev pub AreStuck : ℕ → List ℕ → List ℕ → List (Option ℕ) → Type 0
AreStuck nodes sources targets waits = (node link : ℕ) → node < nodes → wait_of waits node ≡ suc link
    → (link < length targets) × (slice_index targets link ≡ node) × (0 < wait_of waits (slice_index sources link))
