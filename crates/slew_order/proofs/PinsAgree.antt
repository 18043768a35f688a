-- Where a design has slews, no pin is stuck, and corners agree on which pins are known.
use Rattle.std.proofs.Common.{◌≡◌, ℕ, ◌<◌, ◌∙◌, nat_lt, Bool, true, false, if◌then◌else◌, ap, sym, refl, length, Option, Some, None, inl, inr, arith}
use Rattle.std.proofs.lemmas.Bool.{ltb-true}
use Rattle.cell_models.specs.declared.edge.Edge.{Edge}
use Rattle.netlist_link.specs.FlatNetlist.{net_at}
use Rattle.slew_states.specs.PinState.{behind}
use Rattle.slew_states.specs.Settled.{states_in}
use Rattle.slew_states.specs.declared.states.PinState.{PinState}
use Rattle.slew_states.specs.declared.states.PinState.TheVariants.{Absent, Stuck}
use Rattle.slew_order.specs.FlatArcs.{net_on}
use Rattle.slew_order.specs.NetStates.{net_state, states_at}
use Rattle.slew_order.specs.PinSlews.{is_driver, sink_of, sink_state, state_on}
use Rattle.slew_order.specs.Shapes.{AreShaped}
use Rattle.slew_order.specs.Sinks.{pin_place}
use Rattle.slew_order.specs.SlewLaws.{NoPinStuck, PinsAgree, pin_state_at}
use Rattle.slew_order.specs.Slews.{SlewTables, AreSlews}
use Rattle.slew_order.specs.Timings.{SlewSource, behind_wire}
use Rattle.slew_order.proofs.AliveStates.{is_known, agree_known, behind_known, slew_of}
use Rattle.slew_order.proofs.NoStuck.{not_stuck, place_is_pin}
use Rattle.slew_order.proofs.Settling.{many_drivers}
use Rattle.slew_order.proofs.SlewLaws.{agreeing_corners}
use Rattle.slew_order.proofs.StuckStates.{behind_stuck}

absent_free : Absent ≡ Stuck → ⊥
absent_free is = cc

module _ (source : SlewSource) (tables : SlewTables) (are : AreSlews source tables) (shaped : AreShaped source.count source.cells) where
  kept : ℕ → ℕ → Edge → PinState
  kept corner = states_in (states_at tables.corners corner)

  kept_is : (corner net : ℕ) (edge : Edge) → corner < source.count → net < length source.netlist.nets
      → states_in (states_at tables.corners corner) net edge ≡ net_state source corner net edge
  kept_is corner net edge below low = let many = many_drivers source.netlist in (are.states.each corner below).settled.values net edge (omega (arith, low, many))

  net_free : (corner net : ℕ) (edge : Edge) → corner < source.count → net < length source.netlist.nets
      → states_in (states_at tables.corners corner) net edge ≡ Stuck → ⊥
  net_free corner net edge below low is = not_stuck source tables are shaped corner below net edge (sym (kept_is corner net edge below low) ∙ is)

  -- behind a wire
  sink_free : (corner net instance pin : ℕ) (edge : Edge) → corner < source.count → net < length source.netlist.nets
      → pin_place instance pin (net_at source.netlist net).sinks < length (net_at source.netlist net).sinks
      → behind (behind_wire source corner net (pin_place instance pin (net_at source.netlist net).sinks)) (states_in (states_at tables.corners corner) net edge) ≡ Stuck → ⊥
  sink_free corner net instance pin edge below low sunk is =
      let sinks = (net_at source.netlist net).sinks in
      let place : ℕ = pin_place instance pin sinks in
      elim (behind_stuck (behind_wire source corner net place) (states_in (states_at tables.corners corner) net edge) is) [
        | inl stuck ↦ net_free corner net edge below low stuck
        | inr refused ↦ are.no_limit net low place sunk edge corner below refused.0
            (record {
              within = low;
              sink_within = sunk;
              pin = place_is_pin instance pin sinks sunk;
              at_corner = below;
              known = sym (kept_is corner net edge below low) ∙ refused.1;
              none = refused.2;
            })
      ]

  module _ (instance pin : ℕ) (edge : Edge) where
    abbrev on_net : ℕ → Option ℕ → PinState
    on_net corner found = state_on source.netlist source.count source.times source.mode corner (states_in (states_at tables.corners corner)) instance pin found edge

    abbrev on_sink : ℕ → ℕ → Option ℕ → PinState
    on_sink corner net found = sink_state source.netlist source.count source.times source.mode corner (states_in (states_at tables.corners corner)) net found edge

    pin_free : (corner : ℕ) → corner < source.count → (found : Option ℕ) → net_on source.netlist instance pin ≡ found → on_net corner found ≡ Stuck → ⊥
    pin_free corner below None on is = absent_free is
    pin_free corner below (Some net) on is = by (is_driver instance pin (net_at source.netlist net).driver) is
      where
        low : net < length source.netlist.nets
        low = are.tables_are.pins instance pin net on

        on_place : (b : Bool) → nat_lt (pin_place instance pin (net_at source.netlist net).sinks) (length (net_at source.netlist net).sinks) ≡ b
            → on_sink corner net (if b then Some (pin_place instance pin (net_at source.netlist net).sinks) else None) ≡ Stuck → ⊥
        on_place true is stuck = sink_free corner net instance pin edge below low (ltb-true (pin_place instance pin (net_at source.netlist net).sinks) (length (net_at source.netlist net).sinks) is) stuck
        on_place false is stuck = absent_free stuck

        by : (b : Bool) → (if b then states_in (states_at tables.corners corner) net edge else on_sink corner net (sink_of source.netlist instance pin net)) ≡ Stuck → ⊥
        by true stuck = net_free corner net edge below low stuck
        by false stuck = on_place (nat_lt (pin_place instance pin (net_at source.netlist net).sinks) (length (net_at source.netlist net).sinks)) refl stuck

    alike : (one other : ℕ) → one < source.count → other < source.count → (found : Option ℕ) → net_on source.netlist instance pin ≡ found
        → is_known (on_net one found) ≡ is_known (on_net other found)
    alike one other below also None on = refl
    alike one other below also (Some net) on = by (is_driver instance pin (net_at source.netlist net).driver)
      where
        low : net < length source.netlist.nets
        low = are.tables_are.pins instance pin net on

        nets : is_known (states_in (states_at tables.corners one) net edge) ≡ is_known (states_in (states_at tables.corners other) net edge)
        nets =
            ap is_known (kept_is one net edge below low)
            ∙ agree_known (net_state source one net edge) (net_state source other net edge) (agreeing_corners source one other net edge)
            (not_stuck source tables are shaped one below net edge) (not_stuck source tables are shaped other also net edge)
            ∙ ap is_known (sym (kept_is other net edge also low))

        on_place : (b : Bool) → nat_lt (pin_place instance pin (net_at source.netlist net).sinks) (length (net_at source.netlist net).sinks) ≡ b
            → is_known (on_sink one net (if b then Some (pin_place instance pin (net_at source.netlist net).sinks) else None)) ≡ is_known (on_sink other net (if b then Some (pin_place instance pin (net_at source.netlist net).sinks) else None))
        on_place true is =
            let sunk = ltb-true (pin_place instance pin (net_at source.netlist net).sinks) (length (net_at source.netlist net).sinks) is in
            behind_known (behind_wire source one net (pin_place instance pin (net_at source.netlist net).sinks)) (states_in (states_at tables.corners one) net edge) (sink_free one net instance pin edge below low sunk)
            ∙ nets
            ∙ sym (behind_known (behind_wire source other net (pin_place instance pin (net_at source.netlist net).sinks)) (states_in (states_at tables.corners other) net edge) (sink_free other net instance pin edge also low sunk))
        on_place false is = refl

        by : (b : Bool) → is_known (if b then states_in (states_at tables.corners one) net edge else on_sink one net (sink_of source.netlist instance pin net))
            ≡ is_known (if b then states_in (states_at tables.corners other) net edge else on_sink other net (sink_of source.netlist instance pin net))
        by true = nets
        by false = on_place (nat_lt (pin_place instance pin (net_at source.netlist net).sinks) (length (net_at source.netlist net).sinks)) refl

pub no_pin_stuck : NoPinStuck
no_pin_stuck source tables are shaped corner instance pin edge below is =
    pin_free source tables are shaped instance pin edge corner below (net_on source.netlist instance pin) refl is

pub pins_agree : PinsAgree
pins_agree source tables are shaped corner other instance pin slew edge below also known =
    let same = alike source tables are shaped instance pin edge corner other below also (net_on source.netlist instance pin) refl in
    slew_of (pin_state_at source tables other instance pin edge) (sym same ∙ ap is_known known)
