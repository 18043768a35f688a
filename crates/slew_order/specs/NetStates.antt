-- The states of the nets of a design at its corners.
use Rattle.std.specs.Prelude.{◌≡◌, ℕ, ◌+◌, ◌<◌, List, [], length, slice_index_or}
use Rattle.cell_models.specs.declared.edge.Edge.{Edge}
use Rattle.slew_states.specs.PinState.{IsSmall, state}
use Rattle.slew_states.specs.Settled.{AreSettled, arc_edges, states_in}
use Rattle.slew_states.specs.declared.arcs.Driver.{Driver}
use Rattle.slew_states.specs.declared.states.PinState.{PinState}
use Rattle.slew_states.specs.declared.states.EdgeStates.{EdgeStates}
use Rattle.slew_order.specs.FlatArcs.{drivers_of}
use Rattle.slew_order.specs.Timings.{SlewSource, flat_in, look_at, wire_at}

-- the pairs of an arc of an instance and an edge that it has
abbrev pub edges_in : SlewSource → ℕ
edges_in source = arc_edges (flat_in source)

-- what drives the nets
abbrev pub drivers_in : SlewSource → List Driver
drivers_in source = drivers_of source.netlist

-- the states at the corner of a number
abbrev pub states_at : List (List EdgeStates) → ℕ → List EdgeStates
states_at corners corner = slice_index_or corners corner []

module _ (source : SlewSource) where
  -- the state of a net at a corner: that at the depth of one more than the number of nets
  abbrev pub net_state : ℕ → ℕ → Edge → PinState
  net_state corner = state (look_at source corner) (wire_at source corner) (flat_in source) (drivers_in source) source.slew
      (length (drivers_in source) + 1)

  -- these are the states of the nets at a corner
  pub record AreStatesAt (corner : ℕ) (states : List EdgeStates) : Type 0 where
    pub settled : AreSettled (look_at source corner) (wire_at source corner) (flat_in source) (drivers_in source) source.slew states
    pub small : (net : ℕ) (edge : Edge) → IsSmall (states_in states net edge)

  -- these are the states at so many corners
  abbrev pub AreStatesTo : ℕ → List (List EdgeStates) → Type 0
  AreStatesTo many corners = (corner : ℕ) → corner < many → AreStatesAt corner (states_at corners corner)

  -- these are the states at all corners, and no more
  pub record AreNetStates (corners : List (List EdgeStates)) : Type 0 where
    pub len : length corners ≡ source.count
    pub each : AreStatesTo source.count corners
