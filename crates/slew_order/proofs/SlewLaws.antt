-- The laws of states are laws of the slews of a design.
use Rattle.std.proofs.Common.{◌≡◌, ℕ, ◌+◌, ◌<◌, ◌∙◌, ap, sym, refl, if◌then◌else◌, List, [], ◌∷◌, length, map, Option, Some, None, arith}
use Rattle.std.specs.Prelude.{All}
use Rattle.std.proofs.lemmas.Bool.{lt-ltb}
use Rattle.std.proofs.lemmas.List.{length-map}
use Rattle.std.proofs.lemmas.List.Elements.{All-get_or}
use Rattle.cell_models.specs.declared.edge.Edge.{Edge}
use Rattle.slew_states.specs.InputEdges.{input_edges}
use Rattle.slew_states.specs.Loops.{HasNoLoop}
use Rattle.slew_states.specs.PinState.{behind, join, joined, known_or_stuck, pin_state, worst}
use Rattle.slew_states.specs.declared.states.PinState.{PinState}
use Rattle.slew_states.specs.declared.states.PinState.TheVariants.{Absent, Known, Stuck}
use Rattle.slew_states.proofs.Corners.{corners_agree}
use Rattle.slew_states.proofs.Depths.{settled_depth}
use Rattle.netlist_link.specs.FlatNetlist.{net_at}
use Rattle.slew_order.specs.declared.arcs.ArcAt.{ArcAt}
use Rattle.slew_order.specs.Cycles.{HasNoCycle, related_net}
use Rattle.slew_order.specs.Designs.{IsSource}
use Rattle.slew_order.specs.FlatArcs.{IsArcAt, cell_arc}
use Rattle.slew_order.specs.NetStates.{drivers_in}
use Rattle.net_delays.specs.NetTimes.{elmore_at}
use Rattle.slew_order.specs.PinSlews.{sink_of, sink_state, state_of_pin, state_on}
use Rattle.slew_order.specs.Sinks.{IsSunk, pin_place, related_sink, sink_on}
use Rattle.slew_order.specs.SlewLaws.{DeepSlews, AgreeingCorners, WorstAtPins}
use Rattle.slew_order.specs.Timings.{SlewSource, arcs_in, arc_number, flat_in, look_at, no_arc_at, wire_at, wire_to}
use Rattle.slew_order.specs.WireBehind.{wire_of}
use Rattle.slew_order.proofs.Cycling.{flat_is, lead_joins}
use Rattle.slew_order.proofs.Driving.{sink_drives_not}
use Rattle.slew_order.proofs.Links.{arcs_there, have_nets, net_in}
use Rattle.slew_order.proofs.Settling.{many_drivers, nets_driven}

-- a state behind look-ups that answer the same
behind_same : (f g : ℕ → Option ℕ) (state : PinState) → ((slew : ℕ) → f slew ≡ g slew) → behind f state ≡ behind g state
behind_same f g Absent same = refl
behind_same f g (Known slew) same = ap known_or_stuck (same slew)
behind_same f g Stuck same = refl

joined_by : (p q : Edge → PinState) → ((edge : Edge) → p edge ≡ q edge) → (edges : List Edge) → joined (map p edges) ≡ joined (map q edges)
joined_by p q same [] = refl
joined_by p q same (edge ∷ edges) = ap (λ s. join s (joined (map p edges))) (same edge) ∙ ap (join (q edge)) (joined_by p q same edges)

pub all_there : (source : SlewSource) → IsSource source → All (IsArcAt source.netlist source.cells) (arcs_in source)
all_there source is = arcs_there source.cells source.netlist is.linked (arcs_in source) (length source.netlist.instances) (omega arith) refl

-- where there is no cycle there is no loop
no_loop : (source : SlewSource) → IsSource source → HasNoCycle source.netlist source.cells → HasNoLoop (flat_in source)
no_loop source is none net numbers loop =
    let many = length-map numbers (arc_number source) in
    let some = loop.0 in
    none net (map (arc_number source) numbers) (omega (arith, many, some), lead_joins source (all_there source is) net net numbers loop.1)

-- the state of a related pin by the number of its arc is that of the pin
related_state : (source : SlewSource) → IsSource source → (at : ArcAt) → IsSunk source.netlist source.cells at → (corner arc : ℕ) → arc_number source arc ≡ at
    → (before : ℕ → Edge → PinState) (found : Option ℕ) → related_net source.netlist source.cells at ≡ found → (edge : Edge)
    → pin_state (wire_at source corner) before arc found edge
    ≡ state_on source.netlist source.count source.times source.mode corner before at.instance (cell_arc source.netlist source.cells at 0).from found edge
related_state source is at sunk corner arc number before None on edge = refl
related_state source is at sunk corner arc number before (Some net) on edge =
    let from = (cell_arc source.netlist source.cells at 0).from in
    let sinks = (net_at source.netlist net).sinks in
    let place : related_sink source.netlist source.cells at ≡ pin_place at.instance from sinks = ap (sink_on source.netlist at.instance from) on in
    let below = sunk net on in
    let some : pin_place at.instance from sinks < length sinks = omega (arith, below, place) in
    let within = net_in source.cells source.netlist is.linked at.instance from net on in
    let wire : (slew : ℕ) → wire_at source corner arc slew ≡ wire_of source.mode (elmore_at source.count source.times net (pin_place at.instance from sinks) corner) slew =
    λ slew. ap (λ a. wire_to source corner a (related_net source.netlist source.cells a) slew) number
    ∙ ap (λ o. wire_to source corner at o slew) on
    ∙ ap (λ sink. wire_of source.mode (elmore_at source.count source.times net sink corner) slew) place in
    behind_same (wire_at source corner arc) (wire_of source.mode (elmore_at source.count source.times net (pin_place at.instance from sinks) corner)) (before net edge) wire
    ∙ sym (ap (λ b. if b then before net edge else sink_state source.netlist source.count source.times source.mode corner before net (sink_of source.netlist at.instance from net) edge)
    (sink_drives_not source.cells source.netlist is.linked net within at.instance from some)
    ∙ ap (λ b. sink_state source.netlist source.count source.times source.mode corner before net (if b then Some (pin_place at.instance from sinks) else None) edge)
    (lt-ltb (pin_place at.instance from sinks) (length sinks) some))

pub worst_at_pins : WorstAtPins
worst_at_pins source is sunk arc corner before edge within =
    let at = arc_number source arc in
    let flat = flat_is source (all_there source is) arc within in
    let one = All-get_or (IsSunk source.netlist source.cells) (arcs_in source) arc no_arc_at within sunk in
    ap (λ f. worst (wire_at source corner) before arc f edge) flat
    ∙ joined_by (pin_state (wire_at source corner) before arc (related_net source.netlist source.cells at))
    (state_of_pin source.netlist source.count source.times source.mode corner before at.instance (cell_arc source.netlist source.cells at 0).from)
    (λ e. related_state source is at one corner arc refl before (related_net source.netlist source.cells at) refl e)
    (input_edges (cell_arc source.netlist source.cells at 0).kind edge)

pub deep_slews : DeepSlews
deep_slews source is none corner depth net edge deep =
    let many = many_drivers source.netlist in
    settled_depth (look_at source corner) (wire_at source corner) (flat_in source) (drivers_in source) source.slew
    (nets_driven source.netlist (flat_in source) (length (drivers_in source)) refl (have_nets source.cells source.netlist is.linked (arcs_in source)))
    (no_loop source is none) depth net edge (omega (arith, many, deep))

pub agreeing_corners : AgreeingCorners
agreeing_corners source corner other net edge =
    corners_agree (look_at source corner) (wire_at source corner) (look_at source other) (wire_at source other) (flat_in source) (drivers_in source) source.slew
    (length (drivers_in source) + 1) net edge
