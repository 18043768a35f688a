-- The states of all nets in a list.
use Rattle.std.specs.Prelude.{◌≡◌, ℕ, ◌+◌, ◌<◌, if◌then◌else◌, List, [], ◌∷◌, length, slice_index_or, true, Some}
use Rattle.cell_models.specs.declared.edge.Edge.{Edge}
use Rattle.slew_states.specs.declared.arcs.FlatArc.{FlatArc}
use Rattle.slew_states.specs.declared.arcs.Driver.{Driver}
use Rattle.slew_states.specs.declared.states.PinState.{PinState}
use Rattle.slew_states.specs.declared.states.PinState.TheVariants.{Absent}
use Rattle.slew_states.specs.declared.states.EdgeStates.{EdgeStates}
use Rattle.slew_states.specs.Arcs.{arc_at, has_edge}
use Rattle.slew_states.specs.PinState.{Look, Wire, state, state_at}

abbrev pub both_absent : EdgeStates
both_absent = record { rise = Absent; fall = Absent }

-- the states of the nets, as a function
abbrev pub states_in : List EdgeStates → ℕ → Edge → PinState
states_in states net edge = state_at (slice_index_or states net both_absent) edge

-- each net has its state at the depth of one more than the number of nets
pub record AreSettled (look : Look) (wire : Wire) (arcs : List FlatArc) (drivers : List Driver)
    (slew : ℕ) (states : List EdgeStates) : Type 0 where
  pub len : length states ≡ length drivers
  pub values : (net : ℕ) (edge : Edge) → net < length drivers
      → states_in states net edge ≡ state look wire arcs drivers slew (length drivers + 1) net edge

-- the pairs of an arc and an edge that it has
abbrev pub edges_of : FlatArc → ℕ
edges_of arc = (if arc.rise then 1 else 0) + (if arc.fall then 1 else 0)

abbrev pub arc_edges : List FlatArc → ℕ
arc_edges [] = 0
arc_edges (arc ∷ arcs) = edges_of arc + arc_edges arcs

-- a slew may be looked up at each edge of each arc that is loaded, and taken through the wire to each related pin
abbrev pub CanAll : (ℕ → Edge → Type 0) → (ℕ → Type 0) → List FlatArc → Type 0
CanAll can_look can_wire arcs = (arc net : ℕ) → arc < length arcs → ((arc_at arcs arc).source ≡ Some net → can_wire arc)
    × ((edge : Edge) → (arc_at arcs arc).target ≡ Some net → has_edge (arc_at arcs arc) edge ≡ true → can_look arc edge)
