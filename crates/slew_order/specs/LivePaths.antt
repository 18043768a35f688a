-- The delays of arcs at their worst input slews, and live paths.
use Rattle.std.specs.Prelude.{◌≡◌, ℕ, ◌<◌, ◌==◌, ◌&&◌, Bool, true, if◌then◌else◌, ℤ, int_lt, List, [], ◌∷◌, map, Option, Some, None, IsSome, Result, Ok, Err}
use Rattle.cell_models.specs.declared.edge.Edge.{Edge}
use Rattle.hierarchy.specs.Walks.{joined_from}
use Rattle.nldm_lookup.specs.declared.faults.LookupEnd.{LookupEnd}
use Rattle.slew_states.specs.Arcs.{has_edge}
use Rattle.slew_states.specs.InputEdges.{input_edges}
use Rattle.slew_states.specs.PinState.{joined}
use Rattle.slew_states.specs.declared.states.PinState.{PinState}
use Rattle.slew_states.specs.declared.states.PinState.TheVariants.{Absent, Known, Stuck}
use Rattle.slew_order.specs.declared.arcs.ArcAt.{ArcAt}
use Rattle.slew_order.specs.declared.lookups.EdgeLookups.{EdgeLookups}
use Rattle.slew_order.specs.FlatArcs.{arc_count, cell_arc, flat_at}
use Rattle.slew_order.specs.PinSlews.{state_of_pin}
use Rattle.slew_order.specs.Timings.{SlewSource, lookups_at, tables_of}

-- the delay where its look-up has a value
abbrev pub if_value : Result ℤ LookupEnd → Option ℤ
if_value (Ok delay) = Some delay
if_value (Err end) = None

abbrev pub delay_in : Option EdgeLookups → Option ℤ
delay_in None = None
delay_in (Some looked) = if_value looked.delay

-- the larger of two values, of which each may be missing
abbrev pub larger : Option ℤ → Option ℤ → Option ℤ
larger None other = other
larger (Some value) None = Some value
larger (Some value) (Some other) = if int_lt value other then Some other else Some value

abbrev pub largest : List (Option ℤ) → Option ℤ
largest [] = None
largest (value ∷ values) = larger value (largest values)

-- The states of the nets at a corner are given.
module _ (source : SlewSource) (corner : ℕ) (before : ℕ → Edge → PinState) where
  -- known with the worst slew of the related pin of an arc for an edge of its output; absent or stuck where there is none
  abbrev pub input_state : ArcAt → Edge → PinState
  input_state at edge = joined (map (state_of_pin source.netlist source.count source.times source.mode corner before at.instance
      (cell_arc source.netlist source.cells at 0).from) (input_edges (cell_arc source.netlist source.cells at 0).kind edge))

  abbrev pub delay_by : PinState → ArcAt → Edge → Option ℤ
  delay_by Absent at edge = None
  delay_by (Known slew) at edge = delay_in (lookups_at source corner at edge slew)
  delay_by Stuck at edge = None

  -- The delay of an arc at an edge of its output, in femtoseconds, at its worst input slew and the load of the net of its output pin.
  -- There is none where it has no such slew.
  abbrev pub delay_at : ArcAt → Edge → Option ℤ
  delay_at at edge = delay_by (input_state at edge) at edge

  -- whether an arc of an instance leads from one pin to another
  abbrev pub is_between : ℕ → ℕ → ℕ → ℕ → Bool
  is_between instance from to arc = ((cell_arc source.netlist source.cells (record { instance = instance; arc = arc }) 0).from == from)
      && ((cell_arc source.netlist source.cells (record { instance = instance; arc = arc }) 0).to == to)

  -- the delay of a path from one pin of an instance to another: the largest of those of its arcs
  abbrev pub path_delay : ℕ → ℕ → ℕ → Edge → Option ℤ
  path_delay instance from to edge = largest (joined_from
      (λ arc. (if is_between instance from to arc then delay_at (record { instance = instance; arc = arc }) edge else None) ∷ [])
      0 (arc_count source.netlist source.cells instance))

  -- an arc has an edge, with tables at the corner, its output pin is loaded, and it has a worst input slew there
  pub record HasInput (at : ArcAt) (edge : Edge) : Type 0 where
    pub slew : ℕ
    pub here : has_edge (flat_at source.netlist source.cells at) edge ≡ true
    pub tables : IsSome (tables_of (cell_arc source.netlist source.cells at corner) edge)
    pub loaded : IsSome (flat_at source.netlist source.cells at).target
    pub known : input_state at edge ≡ Known slew

  -- a path is live where one of its arcs has a worst input slew at an edge
  pub record IsLivePath (instance from to : ℕ) : Type 0 where
    pub arc : ℕ
    pub edge : Edge
    pub within : arc < arc_count source.netlist source.cells instance
    pub between : is_between instance from to arc ≡ true
    pub input : HasInput (record { instance = instance; arc = arc }) edge
