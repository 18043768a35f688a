-- An arc with a worst input slew at one corner has one at each.
use Rattle.std.proofs.Common.{◌≡◌, ℕ, ◌<◌, ◌∙◌, true, ap, sym, refl, length, Option, Some, None}
use Rattle.std.specs.Prelude.{IsSome}
use Rattle.std.proofs.lemmas.Bool.{false≢true}
use Rattle.cell_models.specs.declared.cell.EdgeTables.{EdgeTables}
use Rattle.cell_models.specs.declared.edge.Edge.{Edge}
use Rattle.slew_states.specs.Arcs.{arc_at}
use Rattle.slew_states.specs.InputEdges.{input_edges}
use Rattle.slew_states.specs.PinState.{pin_state, worst}
use Rattle.slew_states.specs.Settled.{states_in}
use Rattle.slew_states.specs.declared.states.PinState.{PinState}
use Rattle.slew_states.specs.declared.states.PinState.TheVariants.{Absent, Known, Stuck}
use Rattle.slew_order.specs.FlatArcs.{IsArcAt, cell_arc, flat_at}
use Rattle.slew_order.specs.LivePaths.{HasInput, delay_at, delay_by, delay_in, input_state}
use Rattle.slew_order.specs.NetStates.{net_state, states_at}
use Rattle.slew_order.specs.Slews.{SlewTables, AreSlews}
use Rattle.slew_order.specs.Timings.{SlewSource, arcs_in, flat_in, load_on, lookups_with, tables_of, wire_at}
use Rattle.slew_order.specs.declared.arcs.ArcAt.{ArcAt}
use Rattle.slew_order.proofs.Cycling.{number_of}
use Rattle.slew_order.proofs.Links.{have_nets}
use Rattle.slew_order.proofs.Refusing.{worst_is}
use Rattle.slew_order.proofs.SlewLaws.{agreeing_corners, all_there, worst_at_pins}
use Rattle.annotation_rows.specs.RowLaws.{AreShaped}
use Rattle.slew_order.proofs.AliveStates.{is_known, agree_known, behind_known, joined_known, slew_of}
use Rattle.slew_order.proofs.CornerTables.{edge_there, tables_there}
use Rattle.slew_order.proofs.NoStuck.{not_stuck, pin_before}

-- where a look-up gives a delay there are tables and a load
parts_there : (source : SlewSource) (corner : ℕ) (tables : Option EdgeTables) (target : Option ℕ) (slew : ℕ)
    → IsSome (delay_in (lookups_with source.beyond tables (load_on source corner target) slew)) → IsSome tables × IsSome target
parts_there source corner None target slew some = absurd (false≢true some)
parts_there source corner (Some these) None slew some = absurd (false≢true some)
parts_there source corner (Some these) (Some net) slew some = (refl, refl)

module _ (source : SlewSource) (tables : SlewTables) (are : AreSlews source tables) (shaped : AreShaped source.count source.cells) where
  abbrev states : ℕ → ℕ → Edge → PinState
  states corner = states_in (states_at tables.corners corner)

  module _ (one other : ℕ) (below : one < source.count) (also : other < source.count) where
    pins_known : (arc : ℕ) (edge : Edge) → arc < length (arcs_in source) → (from : Option ℕ) → (arc_at (flat_in source) arc).source ≡ from
        → is_known (pin_state (wire_at source one) (net_state source one) arc from edge) ≡ is_known (pin_state (wire_at source other) (net_state source other) arc from edge)
    pins_known arc edge within None is = refl
    pins_known arc edge within (Some net) is =
        behind_known (wire_at source one arc) (net_state source one net edge)
        (λ stuck. let pin = pin_before source tables are shaped one below arc edge within (ap (λ from. pin_state (wire_at source one) (net_state source one) arc from edge) is ∙ stuck) in
        not_stuck source tables are shaped one below pin.0 edge pin.2)
        ∙ agree_known (net_state source one net edge) (net_state source other net edge) (agreeing_corners source one other net edge)
        (not_stuck source tables are shaped one below net edge) (not_stuck source tables are shaped other also net edge)
        ∙ sym (behind_known (wire_at source other arc) (net_state source other net edge)
        (λ stuck. let pin = pin_before source tables are shaped other also arc edge within (ap (λ from. pin_state (wire_at source other) (net_state source other) arc from edge) is ∙ stuck) in
        not_stuck source tables are shaped other also pin.0 edge pin.2))

    worst_known : (arc : ℕ) (edge : Edge) → arc < length (arcs_in source) → is_known (worst (wire_at source one) (net_state source one) arc (arc_at (flat_in source) arc) edge)
        ≡ is_known (worst (wire_at source other) (net_state source other) arc (arc_at (flat_in source) arc) edge)
    worst_known arc edge within =
        joined_known (pin_state (wire_at source one) (net_state source one) arc (arc_at (flat_in source) arc).source) (pin_state (wire_at source other) (net_state source other) arc (arc_at (flat_in source) arc).source)
        (λ e is. let pin = pin_before source tables are shaped one below arc e within is in not_stuck source tables are shaped one below pin.0 e pin.2)
        (λ e is. let pin = pin_before source tables are shaped other also arc e within is in not_stuck source tables are shaped other also pin.0 e pin.2)
        (λ e. pins_known arc e within (arc_at (flat_in source) arc).source refl) (input_edges (arc_at (flat_in source) arc).kind edge)

  module _ (at : ArcAt) (there : IsArcAt source.netlist source.cells at) (edge : Edge) where
    -- the worst input slew of an arc, by the states of the nets
    input_is : (arc corner : ℕ) (within : arc < length (arcs_in source)) → corner < source.count → (number_of source (all_there source are.source_is) at there).arc ≡ arc
        → input_state source corner (states corner) at edge ≡ worst (wire_at source corner) (net_state source corner) arc (arc_at (flat_in source) arc) edge
    input_is arc corner within below is =
        let n = number_of source (all_there source are.source_is) at there in
        let whole = worst_is source corner (flat_in source) (states_at tables.corners corner) n.arc refl (have_nets source.cells source.netlist are.source_is.linked (arcs_in source))
        (are.states.each corner below) n.within corner edge (input_state source corner (states corner) at edge) refl
        (sym (worst_at_pins source are.source_is are.related n.arc corner (states corner) edge n.within ∙ ap (λ a. input_state source corner (states corner) a edge) n.is)) in
        whole ∙ ap (λ k. worst (wire_at source corner) (net_state source corner) k (arc_at (flat_in source) k) edge) is

    pub input_at_each : (one other : ℕ) → one < source.count → other < source.count → HasInput source one (states one) at edge → HasInput source other (states other) at edge
    input_at_each one other below also input =
        let n = number_of source (all_there source are.source_is) at there in
        let known : is_known (input_state source other (states other) at edge) ≡ true =
        ap is_known (input_is n.arc other n.within also refl) ∙ sym (worst_known one other below also n.arc edge n.within) ∙ ap is_known (sym (input_is n.arc one n.within below refl)) ∙ ap is_known input.known in
        let slew = slew_of (input_state source other (states other) at edge) known in
        record {
          slew = slew.0;
          here = input.here;
          tables = tables_there source.netlist source.cells are.source_is.linked source.count shaped other also at there edge input.here;
          loaded = input.loaded;
          known = slew.1;
        }

    -- an arc with a delay has a worst input slew
    pub delay_has_input : (corner : ℕ) → corner < source.count → IsSome (delay_at source corner (states corner) at edge) → HasInput source corner (states corner) at edge
    delay_has_input corner below some = by (input_state source corner (states corner) at edge) refl some
      where
        by : (state : PinState) → input_state source corner (states corner) at edge ≡ state → IsSome (delay_by source corner (states corner) state at edge) → HasInput source corner (states corner) at edge
        by Absent is some = absurd (false≢true some)
        by (Known slew) is some =
            let parts = parts_there source corner (tables_of (cell_arc source.netlist source.cells at corner) edge) (flat_at source.netlist source.cells at).target slew some in
            record {
              slew = slew;
              here = edge_there source.netlist source.cells are.source_is.linked source.count shaped corner below at there edge parts.0;
              tables = parts.0;
              loaded = parts.1;
              known = is;
            }
        by Stuck is some = absurd (false≢true some)
