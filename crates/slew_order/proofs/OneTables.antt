-- Two tables of loads and Elmore sums that are alike are equal, and so are two tables of the slews of a design.
use Rattle.std.proofs.Common.{◌≡◌, ℕ, ◌<◌, ◌∙◌, ap, sym, subst, inl, inr, List, [], length, ext_get_or, arith}
use Rattle.std.proofs.lemmas.Bool.{cases_eq}
use Rattle.cell_models.specs.declared.edge.Edge.{Edge}
use Rattle.cell_models.specs.declared.edge.Edge.TheVariants.{Rise, Fall}
use Rattle.netlist_link.specs.FlatNetlist.{FlatNetlist}
use Rattle.slew_states.specs.Settled.{both_absent, states_in}
use Rattle.slew_states.specs.declared.states.PinState.{PinState}
use Rattle.slew_states.specs.declared.states.EdgeStates.{EdgeStates}
use Rattle.slew_order.specs.NetStates.{drivers_in, states_at}
use Rattle.net_delays.specs.NetTimes.{start_in}
use Rattle.slew_order.specs.SinkPlaces.{ArePlaces, IsSinkRow}
use Rattle.slew_order.specs.SlewLaws.{OneSlews}
use Rattle.slew_order.specs.Slews.{SlewTables, AreSlews, tables_of}
use Rattle.slew_order.specs.Timings.{SlewSource}
use Rattle.slew_order.proofs.Settling.{many_drivers}
use Rattle.net_delays.proofs.Starts.{one_sums}

-- ---- the slews of a design

states_are : (one other : EdgeStates) → one.rise ≡ other.rise → one.fall ≡ other.fall → one ≡ other
states_are one other rise fall =
    let both : PinState → PinState → EdgeStates = λ r f. record { rise = r; fall = f } in
    ap (λ r. both r one.fall) rise ∙ ap (both other.rise) fall

-- two tables of places of pins are equal
one_places : (netlist : FlatNetlist) (starts one other : List ℕ) → ArePlaces netlist starts one → ArePlaces netlist starts other → one ≡ other
one_places netlist starts one other some more =
    ext_get_or 0 one other (some.len ∙ sym more.len) (λ row within. elim (cases_eq (start_in one row) (start_in other row)) [
      | inl same ↦ same
      | inr apart ↦
          let none : IsSinkRow netlist starts row → ⊥ = λ is. apart (ap (start_in one) is.row_is ∙ some.all is.instance is.pin is.net is.within is.on is.sink
          ∙ sym (more.all is.instance is.pin is.net is.within is.on is.sink) ∙ ap (start_in other) (sym is.row_is)) in
          absurd (apart (some.others row none ∙ sym (more.others row none)))
    ])

module _ (source : SlewSource) (one other : SlewTables) (some : AreSlews source one) (more : AreSlews source other) where
  -- each net has the same state at each corner and edge
  same_state : (corner net : ℕ) (edge : Edge) → corner < source.count → net < length source.netlist.nets
      → states_in (states_at one.corners corner) net edge ≡ states_in (states_at other.corners corner) net edge
  same_state corner net edge below within =
      let many = many_drivers source.netlist in
      let driven : net < length (drivers_in source) = omega (arith, many, within) in
      (some.states.each corner below).settled.values net edge driven ∙ sym ((more.states.each corner below).settled.values net edge driven)

  same_states : (corner : ℕ) → corner < source.count → states_at one.corners corner ≡ states_at other.corners corner
  same_states corner below =
      let len = some.tables_are.nets corner below in
      ext_get_or both_absent (states_at one.corners corner) (states_at other.corners corner) (len ∙ sym (more.tables_are.nets corner below)) (λ net here.
      let within : net < length source.netlist.nets = subst (λ n. net < n) len here in
      states_are _ _ (same_state corner net Rise below within) (same_state corner net Fall below within))

  corners_are : one.corners ≡ other.corners
  corners_are =
      let len = some.tables_are.corners in
      ext_get_or [] one.corners other.corners (len ∙ sym more.tables_are.corners) (λ corner here. same_states corner (subst (λ n. corner < n) len here))

  pins_are : one.starts ≡ other.starts
  pins_are = one_sums _ _ one.starts other.starts some.tables_are.starts more.tables_are.starts

  places_are : one.places ≡ other.places
  places_are = one_places source.netlist one.starts one.places other.places some.tables_are.places
      (subst (λ starts. ArePlaces source.netlist starts other.places) (sym pins_are) more.tables_are.places)

  same_tables : one ≡ other
  same_tables =
      ap (λ c. tables_of c one.starts one.places one.beyond one.mode one.slew) corners_are
      ∙ ap (λ s. tables_of other.corners s one.places one.beyond one.mode one.slew) pins_are
      ∙ ap (λ p. tables_of other.corners other.starts p one.beyond one.mode one.slew) places_are
      ∙ ap (λ b. tables_of other.corners other.starts other.places b one.mode one.slew) (some.beyond ∙ sym more.beyond)
      ∙ ap (λ m. tables_of other.corners other.starts other.places other.beyond m one.slew) (some.mode ∙ sym more.mode)
      ∙ ap (tables_of other.corners other.starts other.places other.beyond other.mode) (some.slew ∙ sym more.slew)

pub one_slews : OneSlews
one_slews = same_tables
