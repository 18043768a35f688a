-- A net that an arc with a refused look-up ends on is stuck.
use Rattle.std.proofs.Common.{◌≡◌, ℕ, ◌+◌, ◌<◌, zero, suc, ◌∙◌, true, if◌then◌else◌, ap, sym, refl, List, [], ◌∷◌, length, Option, Some, None, Result, Ok, Err, ℤ, is_some, arith}
use Rattle.std.proofs.lemmas.Bool.{eq-eqb, false≢true}
use Rattle.std.proofs.lemmas.List.{get_or-map, length-map}
use Rattle.cell_models.specs.declared.edge.Edge.{Edge}
use Rattle.netlist_link.specs.FlatNetlist.{FlatNetlist, net_at, no_net}
use Rattle.netlist_link.specs.declared.ends.End.TheVariants as end
use Rattle.nldm_lookup.specs.declared.faults.LookupEnd.{LookupEnd}
use Rattle.slew_states.specs.declared.arcs.Driver.{Driver}
use Rattle.slew_states.specs.declared.arcs.Driver.TheVariants.{Nothing, Pin}
use Rattle.slew_states.specs.declared.arcs.FlatArc.{FlatArc}
use Rattle.slew_states.specs.declared.states.PinState.{PinState}
use Rattle.slew_states.specs.declared.states.PinState.TheVariants.{Absent, Known, Stuck}
use Rattle.slew_states.specs.declared.states.EdgeStates.{EdgeStates}
use Rattle.slew_states.specs.Arcs.{arc_at, driver_at, is_net}
use Rattle.slew_states.specs.PinState.{Look, Wire, arc_state, behind, by_driver, join, known_or_stuck, over_arcs, state, worst}
use Rattle.slew_states.specs.Settled.{states_in}
use Rattle.slew_order.specs.declared.lookups.PartEnd.{PartEnd}
use Rattle.slew_order.specs.declared.lookups.EdgeLookups.{EdgeLookups}
use Rattle.slew_order.specs.Cycles.{HasNoCycle}
use Rattle.slew_order.specs.Designs.{IsSource}
use Rattle.slew_order.specs.FlatArcs.{driver_of, drivers_of, flat_at}
use Rattle.slew_order.specs.NetStates.{AreStatesAt, drivers_in, net_state}
use Rattle.slew_order.specs.SlewEnds.{NoRefusalAt}
use Rattle.slew_order.specs.Timings.{SlewSource, arc_number, arcs_in, first_end, flat_in, if_both, look_at, lookups_at, made_of, refused_of, wire_at}
use Rattle.slew_order.proofs.Links.{have_nets}
use Rattle.slew_order.proofs.Settling.{many_drivers}
use Rattle.slew_order.proofs.SlewLaws.{deep_slews}

join_stuck : (state : PinState) → join state Stuck ≡ Stuck
join_stuck Absent = refl
join_stuck (Known slew) = refl
join_stuck Stuck = refl

-- a net is stuck where one of the arcs on it is
over_stuck : (look : Look) (wire : Wire) (before : ℕ → Edge → PinState) (from : ℕ) (arcs : List FlatArc) (net : ℕ) (edge : Edge) (place : ℕ) → place < length arcs
    → is_net (arc_at arcs place).target net ≡ true → arc_state look wire before (from + place) (arc_at arcs place) edge ≡ Stuck
    → over_arcs look wire before from arcs net edge ≡ Stuck
over_stuck look wire before from [] net edge place within here stuck = absurd (omega (arith, within))
over_stuck look wire before from (this ∷ arcs) net edge zero within here stuck =
    ap (λ b. join (if b then arc_state look wire before from this edge else Absent) (over_arcs look wire before (suc from) arcs net edge)) here
    ∙ ap (λ s. join s (over_arcs look wire before (suc from) arcs net edge))
    (ap (λ arc. arc_state look wire before arc this edge) (let sum : from ≡ from + 0 = omega arith in sum) ∙ stuck)
over_stuck look wire before from (this ∷ arcs) net edge (suc place) within here stuck =
    ap (join (if is_net this.target net then arc_state look wire before from this edge else Absent))
    (over_stuck look wire before (suc from) arcs net edge place (omega (arith, within)) here
    (ap (λ arc. arc_state look wire before arc (arc_at arcs place) edge) (let sum : suc from + place ≡ from + suc place = omega arith in sum) ∙ stuck))
    ∙ join_stuck (if is_net this.target net then arc_state look wire before from this edge else Absent)

-- the state at the next depth of a net that a pin drives
next_stuck : (look : Look) (wire : Wire) (arcs : List FlatArc) (drivers : List Driver) (slew depth net : ℕ) (edge : Edge) → driver_at drivers net ≡ Pin
    → over_arcs look wire (state look wire arcs drivers slew depth) 0 arcs net edge ≡ Stuck → state look wire arcs drivers slew (suc depth) net edge ≡ Stuck
unfolding state
next_stuck look wire arcs drivers slew depth net edge drives stuck =
    ap (λ d. by_driver d slew (over_arcs look wire (state look wire arcs drivers slew depth) 0 arcs net edge)) drives ∙ stuck

-- a refused look-up makes no transition
none_by : (delay transition : Result ℤ LookupEnd) (end : PartEnd) → first_end delay transition ≡ Some end → if_both delay transition ≡ None
none_by (Ok delay) (Ok transition) end is = absurd (false≢true (ap is_some is))
none_by (Ok delay) (Err why) end is = refl
none_by (Err why) transition end is = refl

none_made : (looked : Option EdgeLookups) (end : PartEnd) → refused_of looked ≡ Some end → made_of looked ≡ None
none_made None end is = absurd (false≢true (ap is_some is))
none_made (Some looked) end is = none_by looked.delay looked.transition end is

is_on : (target : Option ℕ) (net : ℕ) → target ≡ Some net → is_net target net ≡ true
is_on target net on = ap (λ o. is_net o net) on ∙ eq-eqb net net refl

-- an output pin drives a net
pub pin_drives : (netlist : FlatNetlist) (net instance pin : ℕ) → net < length netlist.nets → (net_at netlist net).driver ≡ Some (end.Pin instance pin)
    → driver_at (drivers_of netlist) net ≡ Pin
pin_drives netlist net instance pin within is = get_or-map (λ net. driver_of net.driver) netlist.nets net no_net Nothing within ∙ ap driver_of is

-- where the net of an arc is driven by a pin and is not stuck, no look-up of the arc is refused
pub not_refused : (source : SlewSource) → IsSource source → HasNoCycle source.netlist source.cells → (arc : ℕ) (edge : Edge) (corner net : ℕ) (states : List EdgeStates)
    → arc < length (arcs_in source) → AreStatesAt source corner states → (arc_at (flat_in source) arc).target ≡ Some net → driver_at (drivers_in source) net ≡ Pin
    → (states_in states net edge ≡ Stuck → ⊥) → NoRefusalAt source arc edge corner
not_refused source is none arc edge corner net states within are on drives free end refusal =
    let look = look_at source corner in
    let wire = wire_at source corner in
    let this = arc_at (flat_in source) arc in
    let many = length-map (arcs_in source) (flat_at source.netlist source.cells) in
    let in_flat : arc < length (flat_in source) = omega (arith, within, many) in
    let below = (have_nets source.cells source.netlist is.linked (arcs_in source) arc net in_flat).1 on in
    let driven = many_drivers source.netlist in
    let gives : arc_state look wire (net_state source corner) (0 + arc) this edge ≡ Stuck =
    ap (λ k. arc_state look wire (net_state source corner) k this edge) (let sum : 0 + arc ≡ arc = omega arith in sum)
    ∙ ap (λ b. if b then behind (look arc edge) (worst wire (net_state source corner) arc this edge) else Absent) refusal.has.here
    ∙ ap (behind (look arc edge)) refusal.has.known
    ∙ ap known_or_stuck (none_made (lookups_at source corner (arc_number source arc) edge refusal.worst_slew) end refusal.refused) in
    let over = over_stuck look wire (net_state source corner) 0 (flat_in source) net edge arc in_flat (is_on this.target net on) gives in
    free (are.settled.values net edge (omega (arith, below, driven))
    ∙ sym (deep_slews source is none corner (suc (length (drivers_in source) + 1)) net edge (omega (arith, driven)))
    ∙ next_stuck look wire (flat_in source) (drivers_in source) source.slew (length (drivers_in source) + 1) net edge drives over)
