-- The states of nets at each edge.
use Rattle.std.specs.Prelude.{ℕ, ◌≤◌, suc, zero, max, if◌then◌else◌, List, [], ◌∷◌, map, Option, Some, None}
use Rattle.cell_models.specs.declared.edge.Edge.{Edge}
use Rattle.cell_models.specs.declared.edge.Edge.TheVariants.{Rise, Fall}
use Rattle.slew_states.specs.declared.arcs.FlatArc.{FlatArc}
use Rattle.slew_states.specs.declared.arcs.Driver.{Driver}
use Rattle.slew_states.specs.declared.arcs.Driver.TheVariants.{Nothing, Port, Pin}
use Rattle.slew_states.specs.declared.states.PinState.{PinState}
use Rattle.slew_states.specs.declared.states.PinState.TheVariants.{Absent, Known, Stuck}
use Rattle.slew_states.specs.declared.states.EdgeStates.{EdgeStates}
use Rattle.slew_states.specs.Arcs.{driver_at, has_edge, is_net}
use Rattle.slew_states.specs.InputEdges.{input_edges}

-- what an arc makes of a slew at an edge of its output, and what the wire to its related pin makes of one; none where refused
abbrev pub Look : Type 0
Look = ℕ → Edge → ℕ → Option ℕ

abbrev pub Wire : Type 0
Wire = ℕ → ℕ → Option ℕ

-- the greatest slew of a table or a wire, in attoseconds
abbrev pub most : ℕ
most = 1000000000000

-- stuck where one is, else known with the larger slew where one is known
abbrev pub join : PinState → PinState → PinState
join Absent other = other
join (Known s) Absent = Known s
join (Known s) (Known t) = Known (max s t)
join (Known s) Stuck = Stuck
join Stuck other = Stuck

abbrev pub joined : List PinState → PinState
joined [] = Absent
joined (state ∷ states) = join state (joined states)

abbrev pub known_or_stuck : Option ℕ → PinState
known_or_stuck None = Stuck
known_or_stuck (Some slew) = Known slew

-- the state behind a look-up or a wire
abbrev pub behind : (ℕ → Option ℕ) → PinState → PinState
behind look Absent = Absent
behind look (Known slew) = known_or_stuck (look slew)
behind look Stuck = Stuck

-- the state of a pin on a net, behind the wire; the states of the nets are given
abbrev pub pin_state : Wire → (ℕ → Edge → PinState) → ℕ → Option ℕ → Edge → PinState
pin_state wire before arc None edge = Absent
pin_state wire before arc (Some net) edge = behind (wire arc) (before net edge)

-- known with the worst input slew of an arc for an edge of its output; absent or stuck where there is none
abbrev pub worst : Wire → (ℕ → Edge → PinState) → ℕ → FlatArc → Edge → PinState
worst wire before arc this edge = joined (map (pin_state wire before arc this.source) (input_edges this.kind edge))

-- the state that an arc gives its output
abbrev pub arc_state : Look → Wire → (ℕ → Edge → PinState) → ℕ → FlatArc → Edge → PinState
arc_state look wire before arc this edge =
    if has_edge this edge then behind (look arc edge) (worst wire before arc this edge) else Absent

-- the state that the arcs of a list, of which the first has this number, give a net
abbrev pub over_arcs : Look → Wire → (ℕ → Edge → PinState) → ℕ → List FlatArc → ℕ → Edge → PinState
over_arcs look wire before arc [] net edge = Absent
over_arcs look wire before arc (this ∷ arcs) net edge =
    join (if is_net this.target net then arc_state look wire before arc this edge else Absent)
    (over_arcs look wire before (suc arc) arcs net edge)

-- the state of a net by what drives it
abbrev pub by_driver : Driver → ℕ → PinState → PinState
by_driver Nothing slew state = Absent
by_driver Port slew state = Known slew
by_driver Pin slew state = state

-- The state of a net at a depth. At depth 0 a net of an output pin is stuck. At a further depth it has what its arcs make of the
-- states at the depth before.
unfoldable pub state : Look → Wire → List FlatArc → List Driver → ℕ → ℕ → ℕ → Edge → PinState
state look wire arcs drivers slew zero net edge = by_driver (driver_at drivers net) slew Stuck
state look wire arcs drivers slew (suc depth) net edge =
    by_driver (driver_at drivers net) slew (over_arcs look wire (state look wire arcs drivers slew depth) 0 arcs net edge)

-- a known slew is at most the greatest
abbrev pub IsSmall : PinState → Type 0
IsSmall Absent = Unit {0}
IsSmall (Known slew) = slew ≤ most
IsSmall Stuck = Unit {0}

abbrev pub state_at : EdgeStates → Edge → PinState
state_at states Rise = states.rise
state_at states Fall = states.fall
