-- Which resistors of a net cut a node off from the driver, and which nets are trees.
use Rattle.std.specs.Prelude.{◌≡◌, ℕ, List, ◌∷◌, ◌++◌, All, Any, EachIndex, SomeIndex}
use Rattle.rc_tree.specs.NetElements.{NetElements, nodes_of}
use Rattle.rc_tree.specs.Walk.{Reached, ReachedWithout}

-- the node is not reached without the resistor at this place
abbrev pub CutsOff : {N : Type 0} → NetElements N → ℕ → N → Type 0
CutsOff net place node = ReachedWithout net place node → ⊥

-- the node is the first of the net's nodes that is not reached
abbrev pub IsUnreached : {N : Type 0} → NetElements N → N → Type 0
IsUnreached {N} net node = (before after : List N) × (nodes_of net ≡ before ++ node ∷ after) × All (Reached net) before
    × (Reached net node → ⊥)

-- every node is reached, and for some resistor every node is reached without it
abbrev pub IsMesh : {N : Type 0} → NetElements N → Type 0
IsMesh net = All (Reached net) (nodes_of net) × SomeIndex net.resistors (λ place. All (ReachedWithout net place) (nodes_of net))

-- every node is reached, and each resistor cuts some node off
abbrev pub IsTree : {N : Type 0} → NetElements N → Type 0
IsTree net = All (Reached net) (nodes_of net) × EachIndex net.resistors (λ place. Any (CutsOff net place) (nodes_of net))

-- a tree is no mesh, and neither has an unreached node
abbrev pub OneShape : {N : Type 0} → NetElements N → Type 0
OneShape {N} net = (IsTree net → IsMesh net → ⊥) × ((node : N) → IsUnreached net node → IsTree net → ⊥)
    × ((node : N) → IsUnreached net node → IsMesh net → ⊥)
