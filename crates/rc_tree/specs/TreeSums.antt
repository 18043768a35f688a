-- Sums over the nodes of a tree whose nodes are numbered so that a parent comes before its children, and 0 is the root.
use Rattle.std.specs.Prelude.{ℕ, zero, suc, ◌*◌, ◌==◌, nat_lt, if◌then◌else◌}
use Rattle.rc_tree.specs.Sums.{sum_below, one}

-- 1 where a node stands on the way up from another over so many parents, which leaves no node below the least
abbrev pub up : (ℕ → ℕ) → ℕ → ℕ → ℕ → ℕ → ℕ
up parent least node zero from = one node from
up parent least node (suc steps) from =
    if node == from then 1
    else if nat_lt from least then 0
    else up parent least node steps (parent from)

-- 1 where a node stands on the way up from another, which leaves no node below the least
abbrev pub above : (ℕ → ℕ) → ℕ → ℕ → ℕ → ℕ
above parent least node from = up parent least node from from

-- the capacitance that has come to a node, of so many, where each from the least on has given its own to its parent
abbrev pub gathered : (ℕ → ℕ) → ℕ → (ℕ → ℕ) → ℕ → ℕ → ℕ
gathered parent count farads least node = sum_below count (λ from. above parent least node from * farads from)

-- the capacitance of a node and of all nodes below it
abbrev pub farads_below : (ℕ → ℕ) → ℕ → (ℕ → ℕ) → ℕ → ℕ
farads_below parent count farads node = gathered parent count farads 1 node

-- the sum over the nodes on the way up from a node of resistance times the capacitance below
abbrev pub delay_of : (ℕ → ℕ) → ℕ → (ℕ → ℕ) → (ℕ → ℕ) → ℕ → ℕ
delay_of parent count ohms farads node =
    sum_below count (λ link. above parent 1 link node * (ohms link * farads_below parent count farads link))

-- the same sum over pairs of a resistor and a capacitance
abbrev pub pair_sum : (ℕ → ℕ) → ℕ → (ℕ → ℕ) → (ℕ → ℕ) → ℕ → ℕ
pair_sum parent count ohms farads node =
    sum_below count (λ at. sum_below count (λ link. above parent 1 link node * above parent 1 link at * ohms link) * farads at)
