-- The laws of the slews of a design.
use Rattle.std.specs.Prelude.{◌≡◌, ◌⊎◌, ℕ, ◌<◌, ℤ, List, length, Some, All}
use Rattle.cell_models.specs.declared.edge.Edge.{Edge}
use Rattle.slew_states.specs.Laws.{Agree}
use Rattle.slew_states.specs.Arcs.{arc_at}
use Rattle.slew_states.specs.PinState.{state, worst}
use Rattle.slew_states.specs.declared.states.PinState.{PinState}
use Rattle.slew_states.specs.declared.states.PinState.TheVariants.{Known, Stuck}
use Rattle.slew_order.specs.Cycles.{HasNoCycle}
use Rattle.slew_order.specs.Designs.{IsSource}
use Rattle.slew_states.specs.Settled.{states_in}
use Rattle.slew_order.specs.declared.arcs.ArcAt.{ArcAt}
use Rattle.slew_order.specs.declared.ends.SlewEnd.{SlewEnd}
use Rattle.slew_order.specs.declared.ends.SlewEnd.TheVariants.{Loop, OutOfMemory}
use Rattle.slew_order.specs.FlatArcs.{IsArcAt}
use Rattle.slew_order.specs.LivePaths.{HasInput, delay_at, input_state}
use Rattle.slew_order.specs.NetStates.{drivers_in, net_state, states_at}
use Rattle.slew_order.specs.PinSlews.{state_of_pin}
use Rattle.slew_order.specs.Shapes.{AreShaped}
use Rattle.slew_order.specs.SlewEnds.{IsSlewEnd}
use Rattle.slew_order.specs.Sinks.{IsSunk}
use Rattle.slew_order.specs.Slews.{SlewTables, AreSlews}
use Rattle.slew_order.specs.Timings.{SlewSource, arcs_in, arc_number, flat_in, look_at, wire_at}

-- where there is no cycle the states of the nets at each depth past their number are the same
abbrev pub DeepSlews : Type 0
DeepSlews = (source : SlewSource) → IsSource source → HasNoCycle source.netlist source.cells → (corner depth net : ℕ) (edge : Edge)
    → length source.netlist.nets < depth
    → state (look_at source corner) (wire_at source corner) (flat_in source) (drivers_in source) source.slew depth net edge
    ≡ net_state source corner net edge

-- at two corners a net is stuck at one of them, or known at both, or absent at both
abbrev pub AgreeingCorners : Type 0
AgreeingCorners = (source : SlewSource) (corner other net : ℕ) (edge : Edge)
    → Agree (net_state source corner net edge) (net_state source other net edge)

-- the state of a pin of an instance at a corner, by the states of the nets that are kept
abbrev pub pin_state_at : SlewSource → SlewTables → ℕ → ℕ → ℕ → Edge → PinState
pin_state_at source tables corner =
    state_of_pin source.netlist source.count source.times source.mode corner (states_in (states_at tables.corners corner))

-- where a design has slews, and its cells have one shape at all corners, no pin is stuck
abbrev pub NoPinStuck : Type 0
NoPinStuck = (source : SlewSource) (tables : SlewTables) → AreSlews source tables → AreShaped source.count source.cells
    → (corner instance pin : ℕ) (edge : Edge) → corner < source.count → pin_state_at source tables corner instance pin edge ≡ Stuck → ⊥

-- there a pin that is known at an edge at one corner is known there at each
abbrev pub PinsAgree : Type 0
PinsAgree = (source : SlewSource) (tables : SlewTables) → AreSlews source tables → AreShaped source.count source.cells
    → (corner other instance pin slew : ℕ) (edge : Edge) → corner < source.count → other < source.count
    → pin_state_at source tables corner instance pin edge ≡ Known slew
    → (also : ℕ) × (pin_state_at source tables other instance pin edge ≡ Known also)

-- the worst input slew of an arc is that of the states of its related pin, where related pins are sinks
abbrev pub WorstAtPins : Type 0
WorstAtPins = (source : SlewSource) → IsSource source → All (IsSunk source.netlist source.cells) (arcs_in source)
    → (arc corner : ℕ) (before : ℕ → Edge → PinState) (edge : Edge) → arc < length (arcs_in source)
    → worst (wire_at source corner) before arc (arc_at (flat_in source) arc) edge
    ≡ input_state source corner before (arc_number source arc) edge

-- where a design has slews, each arc with a worst input slew at an edge has a delay there
abbrev pub LiveDelays : Type 0
LiveDelays = (source : SlewSource) (tables : SlewTables) → AreSlews source tables → (at : ArcAt) (edge : Edge) (corner : ℕ)
    → IsArcAt source.netlist source.cells at → corner < source.count
    → HasInput source corner (states_in (states_at tables.corners corner)) at edge
    → (delay : ℤ) × (delay_at source corner (states_in (states_at tables.corners corner)) at edge ≡ Some delay)

-- the slews of a design are one
abbrev pub OneSlews : Type 0
OneSlews = (source : SlewSource) (some other : SlewTables) → AreSlews source some → AreSlews source other → some ≡ other

-- where a design has slews, it is refused for want of memory alone
abbrev pub SlewsOrEnd : Type 0
SlewsOrEnd = (source : SlewSource) (tables : SlewTables) (end : SlewEnd) → AreSlews source tables → IsSlewEnd source end → end ≡ OutOfMemory

-- the end names a cycle
abbrev pub IsLoop : SlewEnd → Type 0
IsLoop end = (cycle : List ArcAt) × (end ≡ Loop cycle)

-- the same end, but for where memory is short, and but for which cycle is named
abbrev pub IsSameSlewEnd : SlewEnd → SlewEnd → Type 0
IsSameSlewEnd some other = (some ≡ OutOfMemory) ⊎ ((other ≡ OutOfMemory) ⊎ ((some ≡ other) ⊎ (IsLoop some × IsLoop other)))

-- a design has no slews for one reason
abbrev pub OneSlewEnd : Type 0
OneSlewEnd = (source : SlewSource) (some other : SlewEnd) → IsSlewEnd source some → IsSlewEnd source other → IsSameSlewEnd some other
