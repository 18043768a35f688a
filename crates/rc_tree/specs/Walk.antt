-- Walks over the resistors of a net, and the nodes that they reach.
use Rattle.std.specs.Prelude.{◌≡◌, ◌≢◌, ◌⊎◌, ℕ, Some, List, [], ◌∷◌, slice_get}
use Rattle.rc_tree.specs.NetElements.{NetResistor, NetElements}

-- a resistor has its ends at these two nodes, either way round
abbrev pub HasEnds : {N : Type 0} → NetResistor N → N → N → Type 0
HasEnds resistor a b = ((resistor.from ≡ a) × (resistor.to ≡ b)) ⊎ ((resistor.to ≡ a) × (resistor.from ≡ b))

-- the resistor at this place of the list joins two nodes
abbrev pub Joins : {N : Type 0} → List (NetResistor N) → ℕ → N → N → Type 0
Joins {N} resistors place a b = (resistor : NetResistor N) × (slice_get resistors place ≡ Some resistor) × HasEnds resistor a b

-- A walk from one node to another: a list of resistors, by their places, of which the first begins at the one node, each
-- shares a node with the next, and the last ends at the other. The empty walk leads from a node to itself.
abbrev pub IsWalk : {N : Type 0} → List (NetResistor N) → N → List ℕ → N → Type 0
IsWalk resistors a [] b = a ≡ b
IsWalk {N} resistors a (place ∷ walk) b = (next : N) × Joins resistors place a next × IsWalk resistors next walk b

-- a walk does not use the resistor at this place
abbrev pub Avoids : ℕ → List ℕ → Type 0
Avoids place [] = Unit {0}
Avoids place (used ∷ walk) = (used ≢ place) × Avoids place walk

-- a walk leads from the driver to the node
abbrev pub Reached : {N : Type 0} → NetElements N → N → Type 0
Reached net node = (walk : List ℕ) × IsWalk net.resistors net.driver walk node

-- such a walk leads there without the resistor at this place
abbrev pub ReachedWithout : {N : Type 0} → NetElements N → ℕ → N → Type 0
ReachedWithout net place node = (walk : List ℕ) × IsWalk net.resistors net.driver walk node × Avoids place walk
