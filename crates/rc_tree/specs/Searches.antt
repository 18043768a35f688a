-- A search over resistors from node 0. It numbers the nodes anew in the order in which they are found.
use Rattle.std.specs.Prelude.{◌≡◌, ℕ, ◌+◌, ◌-◌, ◌<◌, ◌≤◌, ◌==◌, if◌then◌else◌, List, [], ◌∷◌, ◌++◌, length, slice_index, slice_set, nat_lt, count_by}
use Rattle.rc_tree.specs.Joins.{Joined}

pub record Search : Type 0 where
  pub order : List ℕ
  pub parents : List ℕ
  pub vias : List ℕ
  pub numbers : List ℕ
  pub links : List ℕ

-- What a search keeps, as functions: c of n nodes are found, the j-th is ord j, found from the par j-th over the resistor via j.
-- A node has num one more than its place where it is found, else 0. A resistor has link the place of the node that was found
-- over it, else 0.
pub record Finds (c n m : ℕ) (a b ord par via num link : ℕ → ℕ) : Type 0 where
  pub some : 0 < c
  pub root : ord 0 ≡ 0
  pub nodes : (j : ℕ) → j < c → ord j < n
  pub num_ord : (j : ℕ) → j < c → num (ord j) ≡ j + 1
  pub ord_num : (i : ℕ) → 0 < num i → (num i ≤ c) × (ord (num i - 1) ≡ i)
  pub down : (j : ℕ) → 0 < j → par j < j
  pub joins : (j : ℕ) → 0 < j → j < c → Joined m a b (via j) (ord (par j)) (ord j)
  pub link_via : (j : ℕ) → 0 < j → j < c → link (via j) ≡ j
  pub via_link : (e : ℕ) → 0 < link e → (link e < c) × (via (link e) ≡ e)

pub record IsSearch (nodes : ℕ) (froms tos : List ℕ) (s : Search) : Type 0 where
  pub parents_len : length s.parents ≡ length s.order
  pub vias_len : length s.vias ≡ length s.order
  pub numbers_len : length s.numbers ≡ nodes
  pub links_len : length s.links ≡ length froms
  pub counted : length s.order ≡ count_by (λ number. nat_lt 0 number) s.numbers
  pub finds : Finds (length s.order) nodes (length froms) (slice_index froms) (slice_index tos) (slice_index s.order)
      (slice_index s.parents) (slice_index s.vias) (slice_index s.numbers) (slice_index s.links)

-- a node that is found over a resistor from the node at a place of the order; one that is found already changes nothing
abbrev pub found_more : Search → ℕ → ℕ → ℕ → Search
found_more s resistor node place = record {
  order = s.order ++ node ∷ [];
  parents = s.parents ++ place ∷ [];
  vias = s.vias ++ resistor ∷ [];
  numbers = slice_set s.numbers node (length s.order + 1);
  links = slice_set s.links resistor (length s.order);
}

abbrev pub reached : Search → ℕ → ℕ → ℕ → Search
reached s resistor node place = if slice_index s.numbers node == 0 then found_more s resistor node place else s

-- what was found stays where it is
pub record Grown (s t : Search) : Type 0 where
  pub longer : length s.order ≤ length t.order
  pub order : (j : ℕ) → j < length s.order → slice_index t.order j ≡ slice_index s.order j
  pub numbers : (i : ℕ) → 0 < slice_index s.numbers i → 0 < slice_index t.numbers i

-- each resistor at the node, by its near end, leads to a node that is found
abbrev pub IsVisited : List ℕ → List ℕ → Search → ℕ → Type 0
IsVisited near far s node = (e : ℕ) → e < length near → slice_index near e ≡ node → 0 < slice_index s.numbers (slice_index far e)

-- no resistor leads from a node that is found to one that is not
abbrev pub IsClosed : List ℕ → List ℕ → Search → Type 0
IsClosed froms tos s = (e : ℕ) → e < length froms
    → (0 < slice_index s.numbers (slice_index froms e) → 0 < slice_index s.numbers (slice_index tos e))
    × (0 < slice_index s.numbers (slice_index tos e) → 0 < slice_index s.numbers (slice_index froms e))
