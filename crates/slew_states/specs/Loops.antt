-- Loops of arcs.
use Rattle.std.specs.Prelude.{◌≡◌, ℕ, ◌+◌, ◌<◌, ◌≤◌, List, [], ◌∷◌, length, Some, All}
use Rattle.slew_states.specs.declared.arcs.FlatArc.{FlatArc}
use Rattle.slew_states.specs.Arcs.{arc_at, sources_of, targets_of}
use Rattle.graph_order.specs.Orders.{IsOrder}

-- The arcs lead from one net to another: the related pin of the first is on the one net, each ends on the net that the related pin
-- of the next is on, and the last ends on the other net.
abbrev pub ArcsLead : List FlatArc → ℕ → List ℕ → ℕ → Type 0
ArcsLead arcs a [] b = a ≡ b
ArcsLead arcs a (arc ∷ walk) b = (arc < length arcs) × ((arc_at arcs arc).source ≡ Some a)
    × ((net : ℕ) × ((arc_at arcs arc).target ≡ Some net) × ArcsLead arcs net walk b)

-- at least one arc, and they lead from the net back to it
abbrev pub IsLoop : List FlatArc → ℕ → List ℕ → Type 0
IsLoop arcs net loop = (0 < length loop) × ArcsLead arcs net loop net

-- a loop that begins at its least net
abbrev pub IsLoopFromLeast : List FlatArc → List ℕ → Type 0
IsLoopFromLeast arcs loop = (net : ℕ) × IsLoop arcs net loop
    × All (λ arc. (source : ℕ) → (arc_at arcs arc).source ≡ Some source → net ≤ source) loop

abbrev pub HasNoLoop : List FlatArc → Type 0
HasNoLoop arcs = (net : ℕ) (loop : List ℕ) → IsLoop arcs net loop → ⊥

-- an order of the graph of the nets
abbrev pub IsNetOrder : ℕ → List FlatArc → List ℕ → Type 0
IsNetOrder nets arcs order = IsOrder (nets + 2) (sources_of nets arcs) (targets_of nets arcs) order
