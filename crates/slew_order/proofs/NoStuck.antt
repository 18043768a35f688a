-- Where a design has slews no net is stuck.
use Rattle.std.proofs.Common.{◌≡◌, ℕ, zero, suc, ◌+◌, ◌<◌, Bool, true, false, if◌then◌else◌, ◌∙◌, ap, sym, refl, subst, List, [], ◌∷◌, length, get_or, Option, Some, None, Result, Ok, Err, ℤ, inl, inr, arith}
use Rattle.std.specs.Prelude.{IsSome}
use Rattle.std.proofs.lemmas.Bool.{false≢true}
use Rattle.std.proofs.lemmas.List.{length-map}
use Rattle.std.proofs.lemmas.List.Elements.{All-get_or}
use Rattle.cell_models.specs.declared.cell.EdgeTables.{EdgeTables}
use Rattle.cell_models.specs.declared.edge.Edge.{Edge}
use Rattle.netlist_link.specs.FlatNetlist.{net_at}
use Rattle.netlist_link.specs.declared.ends.End.{End}
use Rattle.netlist_link.specs.declared.ends.End.TheVariants as end
use Rattle.nldm_lookup.specs.declared.faults.LookupEnd.{LookupEnd}
use Rattle.slew_states.specs.Arcs.{arc_at, driver_at, has_edge}
use Rattle.slew_states.specs.InputEdges.{input_edges}
use Rattle.slew_states.specs.PinState.{behind, by_driver, over_arcs, pin_state, state, worst}
use Rattle.slew_states.specs.declared.states.PinState.TheVariants.{Known, Stuck}
use Rattle.slew_states.proofs.Depths.{is_net_some}
use Rattle.slew_order.specs.Cycles.{ArcsJoin, output_net, related_net}
use Rattle.slew_order.specs.FlatArcs.{IsArcAt, cell_arc, flat_at}
use Rattle.slew_order.specs.NetStates.{drivers_in, net_state}
use Rattle.slew_order.specs.SlewEnds.{IsPin}
use Rattle.slew_order.specs.Sinks.{IsSunk, is_pin, pin_place, related_sink, sink_on}
use Rattle.slew_order.specs.Slews.{SlewTables, AreSlews}
use Rattle.slew_order.specs.Timings.{SlewSource, arcs_in, arc_number, first_end, flat_in, if_both, load_on, look_at, lookups_with, made_of, no_arc_at, refused_of, tables_of, wire_at, wire_to}
use Rattle.slew_order.specs.declared.arcs.ArcAt.{ArcAt}
use Rattle.slew_order.specs.declared.lookups.PartEnd.{PartEnd}
use Rattle.slew_order.proofs.Cycling.{flat_is}
use Rattle.slew_order.proofs.Links.{if_loaded_is, net_in}
use Rattle.slew_order.proofs.Settling.{many_drivers}
use Rattle.slew_order.proofs.SlewLaws.{all_there, deep_slews}
use Rattle.slew_order.specs.Shapes.{AreShaped}
use Rattle.slew_order.proofs.CornerTables.{tables_there}
use Rattle.slew_order.proofs.LongWalks.{walk_short}
use Rattle.slew_order.proofs.StuckStates.{behind_stuck, driver_stuck, joined_stuck, over_stuck, pin_stuck}

-- a transition that is not made is refused
none_refused : (delay transition : Result ℤ LookupEnd) → if_both delay transition ≡ None → (end : PartEnd) × (first_end delay transition ≡ Some end)
none_refused (Ok value) (Ok made) none = absurd (let clash = none in cc)
none_refused (Ok value) (Err end) none = (_, refl)
none_refused (Err end) transition none = (_, refl)

not_made : (source : SlewSource) (corner : ℕ) (tables : Option EdgeTables) (target : Option ℕ) (slew : ℕ) → IsSome tables → IsSome target
    → made_of (lookups_with source.beyond tables (load_on source corner target) slew) ≡ None
    → (end : PartEnd) × (refused_of (lookups_with source.beyond tables (load_on source corner target) slew) ≡ Some end)
not_made source corner None target slew tables loaded none = absurd (false≢true tables)
not_made source corner (Some these) None slew tables loaded none = absurd (false≢true loaded)
not_made source corner (Some these) (Some net) slew tables loaded none = none_refused _ _ none

-- the place of a pin among sinks is that of an input pin
pin_of : (instance pin : ℕ) (sink : End) → is_pin instance pin sink ≡ true → IsPin sink
pin_of instance pin (end.Port port) is = false≢true is
pin_of instance pin (end.Pin this at) is = tt

pub place_is_pin : (instance pin : ℕ) (sinks : List End) → pin_place instance pin sinks < length sinks → IsPin (get_or sinks (pin_place instance pin sinks) (end.Port 0))
place_is_pin instance pin [] below = absurd (omega (arith, below))
place_is_pin instance pin (sink ∷ sinks) below = by (is_pin instance pin sink) refl (place_is_pin instance pin sinks) below
  where
    by : (b : Bool) → is_pin instance pin sink ≡ b → (pin_place instance pin sinks < length sinks → IsPin (get_or sinks (pin_place instance pin sinks) (end.Port 0)))
        → (if b then 0 else suc (pin_place instance pin sinks)) < length (sink ∷ sinks)
        → IsPin (get_or (sink ∷ sinks) (if b then 0 else suc (pin_place instance pin sinks)) (end.Port 0))
    by true is rest below = pin_of instance pin sink is
    by false is rest below = rest (omega (arith, below))

module _ (source : SlewSource) (tables : SlewTables) (are : AreSlews source tables) (shaped : AreShaped source.count source.cells) (corner : ℕ) (below : corner < source.count) where
  arc_there : (arc : ℕ) → arc < length (arcs_in source) → IsArcAt source.netlist source.cells (arc_number source arc)
  arc_there arc within = All-get_or (IsArcAt source.netlist source.cells) (arcs_in source) arc no_arc_at within (all_there source are.source_is)

  flat_there : (arc : ℕ) → arc < length (arcs_in source) → arc_at (flat_in source) arc ≡ flat_at source.netlist source.cells (arc_number source arc)
  flat_there arc within = flat_is source (all_there source are.source_is) arc within

  -- no look-up is refused
  pub looks_up : (arc slew net : ℕ) (edge : Edge) → arc < length (arcs_in source) → (arc_at (flat_in source) arc).target ≡ Some net → has_edge (arc_at (flat_in source) arc) edge ≡ true
      → worst (wire_at source corner) (net_state source corner) arc (arc_at (flat_in source) arc) edge ≡ Known slew → look_at source corner arc edge slew ≡ None → ⊥
  looks_up arc slew net edge within to has known none =
      let at = arc_number source arc in
      let flat = flat_there arc within in
      let here : has_edge (flat_at source.netlist source.cells at) edge ≡ true = ap (λ f. has_edge f edge) (sym flat) ∙ has in
      let target : (flat_at source.netlist source.cells at).target ≡ Some net = ap (λ f. f.target) (sym flat) ∙ to in
      let some = tables_there source.netlist source.cells are.source_is.linked source.count shaped corner below at (arc_there arc within) edge here in
      let refused = not_made source corner (tables_of (cell_arc source.netlist source.cells at corner) edge) (flat_at source.netlist source.cells at).target slew some
      (subst (λ (o : Option ℕ). IsSome o) (sym target) refl) none in
      are.no_refusal arc edge within corner below refused.0
      (record { worst_slew = slew; has = record { within = within; at_corner = below; here = has; known = known }; refused = refused.1 })

  -- no slew is past the limit behind a wire
  pub passes : (arc slew net : ℕ) (edge : Edge) → arc < length (arcs_in source) → (arc_at (flat_in source) arc).source ≡ Some net
      → net_state source corner net edge ≡ Known slew → wire_at source corner arc slew ≡ None → ⊥
  passes arc slew net edge within from known none =
      let at = arc_number source arc in
      let pin = (cell_arc source.netlist source.cells at 0).from in
      let sinks = (net_at source.netlist net).sinks in
      let on : related_net source.netlist source.cells at ≡ Some net = ap (λ f. f.source) (sym (flat_there arc within)) ∙ from in
      let low = net_in source.cells source.netlist are.source_is.linked at.instance pin net on in
      let sunk = All-get_or (IsSunk source.netlist source.cells) (arcs_in source) arc no_arc_at within are.related net on in
      let place : related_sink source.netlist source.cells at ≡ pin_place at.instance pin sinks = ap (sink_on source.netlist at.instance pin) on in
      are.no_limit net low (related_sink source.netlist source.cells at) sunk edge corner below slew
      (record {
        within = low;
        sink_within = sunk;
        pin = subst (λ k. IsPin (get_or sinks k (end.Port 0))) (sym place) (place_is_pin at.instance pin sinks (omega (arith, sunk, place)));
        at_corner = below;
        known = known;
        none = ap (λ o. wire_to source corner at o slew) (sym on) ∙ none;
      })

  -- a state is what the arcs make of the states
  state_next : (net : ℕ) (edge : Edge) → net_state source corner net edge ≡ by_driver (driver_at (drivers_in source) net) source.slew
      (over_arcs (look_at source corner) (wire_at source corner) (net_state source corner) 0 (flat_in source) net edge)
  unfolding state
  state_next net edge =
      let many = many_drivers source.netlist in
      sym (deep_slews source are.source_is are.no_cycle corner (suc (length (drivers_in source) + 1)) net edge (omega (arith, many)))

  -- an arc that leads to a net from one that is stuck
  record IsBehind (net : ℕ) : Type 0 where
    at : ArcAt
    there : IsArcAt source.netlist source.cells at
    to : output_net source.netlist source.cells at ≡ Some net
    before : ℕ
    from : related_net source.netlist source.cells at ≡ Some before
    edge : Edge
    stuck : net_state source corner before edge ≡ Stuck

  -- the related pin of an arc
  pub pin_before : (arc : ℕ) (edge : Edge) → arc < length (arcs_in source) → pin_state (wire_at source corner) (net_state source corner) arc (arc_at (flat_in source) arc).source edge ≡ Stuck
      → (net : ℕ) × ((arc_at (flat_in source) arc).source ≡ Some net) × (net_state source corner net edge ≡ Stuck)
  pin_before arc edge within is =
      let from = pin_stuck (wire_at source corner) (net_state source corner) arc (arc_at (flat_in source) arc).source edge is in
      elim (behind_stuck (wire_at source corner arc) (net_state source corner from.0 edge) from.2) [
        | inl stuck ↦ (from.0, from.1, stuck)
        | inr refused ↦ absurd (passes arc refused.0 from.0 edge within from.1 refused.1 refused.2)
      ]

  stuck_behind : (net : ℕ) (edge : Edge) → net_state source corner net edge ≡ Stuck → IsBehind net
  stuck_behind net edge stuck =
      let by = over_stuck (look_at source corner) (wire_at source corner) (net_state source corner) 0 (flat_in source) net edge
      (driver_stuck (driver_at (drivers_in source) net) source.slew _ (sym (state_next net edge) ∙ stuck)) in
      let arc = by.arc in
      let number : 0 + arc ≡ arc = omega arith in
      let size : length (flat_in source) ≡ length (arcs_in source) = length-map (arcs_in source) (flat_at source.netlist source.cells) in
      let within : arc < length (arcs_in source) = (let low = by.within in omega (arith, low, size)) in
      let to = is_net_some (arc_at (flat_in source) arc).target net by.to in
      let state_of = worst (wire_at source corner) (net_state source corner) arc (arc_at (flat_in source) arc) edge in
      let made = subst (λ k. behind (look_at source corner k edge) (worst (wire_at source corner) (net_state source corner) k (arc_at (flat_in source) arc) edge) ≡ Stuck) number by.stuck in
      elim (behind_stuck (look_at source corner arc edge) state_of made) [
        | inl worst_stuck ↦ (
            let pin = joined_stuck (pin_state (wire_at source corner) (net_state source corner) arc (arc_at (flat_in source) arc).source)
            (input_edges (arc_at (flat_in source) arc).kind edge) worst_stuck in
            let before = pin_before arc pin.0 within pin.1 in
            let flat = flat_there arc within in
            record {
              at = arc_number source arc;
              there = arc_there arc within;
              to = if_loaded_is source.netlist _ net (ap (λ f. f.target) (sym flat) ∙ to);
              before = before.0;
              from = ap (λ f. f.source) (sym flat) ∙ before.1;
              edge = pin.0;
              stuck = before.2;
            })
        | inr refused ↦ absurd (looks_up arc refused.0 net edge within to by.has refused.1 refused.2)
      ]

  -- so many arcs that lead to a net from one that is stuck
  record IsChain (many net : ℕ) : Type 0 where
    walk : List ArcAt
    len : length walk ≡ many
    before : ℕ
    joins : ArcsJoin source.netlist source.cells before walk net
    edge : Edge
    stuck : net_state source corner before edge ≡ Stuck

  chain : (many net : ℕ) (edge : Edge) → net_state source corner net edge ≡ Stuck → IsChain many net
  chain zero net edge stuck = record { walk = []; len = refl; before = net; joins = refl; edge = edge; stuck = stuck }
  chain (suc many) net edge stuck =
      let rest = chain many net edge stuck in
      let first = stuck_behind rest.before rest.edge rest.stuck in
      record {
        walk = first.at ∷ rest.walk;
        len = (let size = rest.len in omega (arith, size));
        before = first.before;
        joins = (first.there, first.from, (rest.before, first.to, rest.joins));
        edge = first.edge;
        stuck = first.stuck;
      }

  pub not_stuck : (net : ℕ) (edge : Edge) → net_state source corner net edge ≡ Stuck → ⊥
  not_stuck net edge stuck =
      let long = chain (suc (length source.netlist.nets)) net edge stuck in
      let short = walk_short source.cells source.netlist are.source_is.linked are.no_cycle long.before net long.walk long.joins in
      let size = long.len in
      omega (arith, short, size)
