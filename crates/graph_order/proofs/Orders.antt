-- Orders leave no cycle.
use Rattle.std.proofs.Common.{◌≡◌, ℕ, ◌+◌, ◌<◌, ◌≤◌, List, [], ◌∷◌, length, slice_index, sym, ◌∙◌, arith}
use Rattle.graph_order.specs.Orders.{IsWalk, IsCycle, IsOrder, OrderLaw}

-- a walk to the node at a place of the order begins at a node that stands so many places before it, at least
pub walk_before : (nodes : ℕ) (sources targets order : List ℕ) → IsOrder nodes sources targets order → (a : ℕ) (walk : List ℕ) (b k : ℕ) → IsWalk sources targets a walk b → k < length order → slice_index order k ≡ b
    → (j : ℕ) × (j + length walk ≤ k) × (slice_index order j ≡ a)
walk_before nodes sources targets order ordered a [] b k walks k_in at = (k, omega arith, at ∙ sym walks)
walk_before nodes sources targets order ordered a (link ∷ walk) b k walks k_in at =
    let rest = walk_before nodes sources targets order ordered (slice_index targets link) walk b k walks.2 k_in at in
    let low = rest.1 in
    let before = ordered.after link rest.0 walks.0 (omega (arith, low, k_in)) (sym rest.2) in
    let lower = before.1 in
    (before.0, omega (arith, low, lower), before.2 ∙ walks.1)

pub no_cycle : (nodes : ℕ) (sources targets order : List ℕ) → IsOrder nodes sources targets order → (node : ℕ) (cycle : List ℕ) → node < nodes → IsCycle sources targets node cycle → ⊥
no_cycle nodes sources targets order ordered node cycle node_in goes =
    let stands = ordered.all node node_in in
    let before = walk_before nodes sources targets order ordered node cycle node stands.0 goes.1 stands.1 stands.2 in
    let low = before.1 in let some = goes.0 in
    ordered.once before.0 stands.0 (omega (arith, low, some)) stands.1 (before.2 ∙ sym stands.2)

-- a cycle begins at the source of its first link
cycle_in : (nodes : ℕ) (sources targets : List ℕ) → ((link : ℕ) → link < length sources → slice_index sources link < nodes) → (node : ℕ) (cycle : List ℕ) → IsCycle sources targets node cycle → node < nodes
cycle_in nodes sources targets within node [] goes = absurd (let some = goes.0 in omega (arith, some))
cycle_in nodes sources targets within node (link ∷ walk) goes = let low = within link goes.1.0 in let at = goes.1.1 in omega (arith, low, at)

pub order_law : (nodes : ℕ) (sources targets order : List ℕ) → OrderLaw nodes sources targets order
order_law nodes sources targets order ordered within node cycle goes =
    no_cycle nodes sources targets order ordered node cycle (cycle_in nodes sources targets (λ link link_in. within link 0 link_in) node cycle goes) goes
