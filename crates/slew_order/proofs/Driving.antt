-- A sink of a net is not its driver: the one is an input, and the other an output.
use Rattle.std.proofs.Common.{◌≡◌, ℕ, suc, ◌+◌, ◌<◌, ◌∙◌, ap, sym, refl, subst, Bool, true, false, not, ◌==◌, if◌then◌else◌, List, [], ◌∷◌, length, filter, get_or, slice_get, Option, Some, None, arith}
use Rattle.std.specs.Prelude.{All, option_to_list, ⊤}
use Rattle.std.proofs.lemmas.Bool.{cond_both, and_parts, eqb-true, false≢true}
use Rattle.std.proofs.lemmas.List.Elements.{All-nil, All-cons, All-append, All-head, All-filter, All-map, All-get_or}
use Rattle.std.proofs.lemmas.Option.{get_or_from_slice_get, slice_get-get_or, same_Some}
use Rattle.cell_models.specs.NamedSets.{NamedCells}
use Rattle.cell_models.specs.declared.cell.Direction.{Direction}
use Rattle.cell_models.specs.declared.cell.Direction.TheVariants.{Input, Output, Inout, Internal}
use Rattle.cell_models.specs.declared.cell.Pin.{Pin}
use Rattle.netlist_link.specs.FlatNetlist.{FlatNetlist, FlatInstance, FlatPort, EndOn, no_net, no_instance, instance_at, net_at, is_input_pin, is_output_pin, end_at, pin_ends, instance_ends, port_ends, driving_ends, driven_ends, ends_on}
use Rattle.netlist_link.specs.FlatPins.{pins_of}
use Rattle.netlist_link.specs.Linked.{IsLinked}
use Rattle.netlist_link.specs.declared.ends.End.{End}
use Rattle.netlist_link.specs.declared.ends.End.TheVariants as end
use Rattle.slew_order.specs.PinSlews.{is_driver}
use Rattle.slew_order.specs.Sinks.{is_pin, pin_place}
use Rattle.slew_order.proofs.SinkPlacing.{place_at}

module _ (cells : List NamedCells) (netlist : FlatNetlist) (test : Direction → Bool) where
  -- the direction of a pin of an instance passes a test
  record Passes (i p : ℕ) : Type 0 where
    pin : Pin
    here : slice_get (pins_of cells (instance_at netlist i).cell) p ≡ Some pin
    pass : test pin.direction ≡ true

  -- an end is a port, or such a pin
  abbrev Holds : End → Type 0
  Holds (end.Port _) = ⊤
  Holds (end.Pin i p) = Passes i p

  abbrev HoldsOn : EndOn → Type 0
  HoldsOn e = Holds e.at

  ports_hold : (inputs : Bool) (from : ℕ) (ports : List FlatPort) → All HoldsOn (port_ends inputs from ports)
  ports_hold inputs from [] = All-nil HoldsOn
  ports_hold inputs from (port ∷ ports) = cond_both (if inputs then port.is_input else not port.is_input) _ _ (All HoldsOn)
      (λ is. All-cons HoldsOn (record { net = port.net; at = end.Port from }) (port_ends inputs (suc from) ports) tt (ports_hold inputs (suc from) ports))
      (λ is. ports_hold inputs (suc from) ports)

  pin_holds : (i from : ℕ) (net : Option ℕ) → Passes i from → All HoldsOn (end_at i from net)
  pin_holds i from None is = All-nil HoldsOn
  pin_holds i from (Some net) is = All-cons HoldsOn (record { net = net; at = end.Pin i from }) [] is (All-nil HoldsOn)

  pins_hold : (i from : ℕ) (pins : List Pin) (nets : List (Option ℕ))
      → ((k : ℕ) → k < length pins → slice_get pins k ≡ slice_get (pins_of cells (instance_at netlist i).cell) (from + k)) → All HoldsOn (pin_ends test i from pins nets)
  pins_hold i from [] nets same = All-nil HoldsOn
  pins_hold i from (pin ∷ pins) [] same = All-nil HoldsOn
  pins_hold i from (pin ∷ pins) (net ∷ nets) same =
      let all = pins_of cells (instance_at netlist i).cell in
      let rest = pins_hold i (suc from) pins nets (λ k within. same (suc k) (omega (arith, within)) ∙ ap (slice_get all) (let at : from + suc k ≡ suc from + k = omega arith in at)) in
      cond_both (test pin.direction) _ _ (All HoldsOn)
      (λ pass. All-append HoldsOn (end_at i from net) (pin_ends test i (suc from) pins nets)
      (pin_holds i from net (record { pin = pin; here = ap (slice_get all) (let at : from ≡ from + 0 = omega arith in at) ∙ sym (same 0 (omega arith)); pass = pass })) rest)
      (λ pass. rest)

  instances_hold : (from : ℕ) (instances : List FlatInstance) → ((k : ℕ) → k < length instances → slice_get instances k ≡ slice_get netlist.instances (from + k))
      → All HoldsOn (instance_ends cells test from instances)
  instances_hold from [] same = All-nil HoldsOn
  instances_hold from (instance ∷ instances) same =
      let at : slice_get netlist.instances from ≡ Some instance = ap (slice_get netlist.instances) (let e : from ≡ from + 0 = omega arith in e) ∙ sym (same 0 (omega arith)) in
      let is : instance_at netlist from ≡ instance = get_or_from_slice_get netlist.instances from instance no_instance at in
      All-append HoldsOn (pin_ends test from 0 (pins_of cells instance.cell) instance.nets) (instance_ends cells test (suc from) instances)
      (pins_hold from 0 (pins_of cells instance.cell) instance.nets
      (λ k within. ap (λ x. slice_get (pins_of cells x.cell) k) (sym is) ∙ ap (slice_get (pins_of cells (instance_at netlist from).cell)) (let e : k ≡ 0 + k = omega arith in e)))
      (instances_hold (suc from) instances (λ k within. same (suc k) (omega (arith, within)) ∙ ap (slice_get netlist.instances) (let e : from + suc k ≡ suc from + k = omega arith in e)))

  all_hold : All HoldsOn (instance_ends cells test 0 netlist.instances)
  all_hold = instances_hold 0 netlist.instances (λ k within. ap (slice_get netlist.instances) (let e : k ≡ 0 + k = omega arith in e))

  ends_hold : (net : ℕ) (ends : List EndOn) → All HoldsOn ends → All Holds (ends_on net ends)
  ends_hold net ends all = All-map Holds (λ (e : EndOn). e.at) (filter (λ (e : EndOn). e.net == net) ends) (All-filter (λ (e : EndOn). e.net == net) HoldsOn ends all)

  -- the pin that an end is passes
  that_pin : (i p : ℕ) (at : End) → is_pin i p at ≡ true → Holds at → Passes i p
  that_pin i p (end.Port _) is holds = absurd (false≢true is)
  that_pin i p (end.Pin this at) is holds =
      let both = and_parts (this == i) (at == p) is in
      subst (λ k. Passes i k) (eqb-true at p both.1) (subst (λ j. Passes j at) (eqb-true this i both.0) holds)

not_both : (direction : Direction) → is_input_pin direction ≡ true → is_output_pin direction ≡ true → ⊥
not_both Input one other = false≢true other
not_both Output one other = false≢true one
not_both Inout one other = false≢true one
not_both Internal one other = false≢true one

-- a pin is not both an input and an output
not_pin : (cells : List NamedCells) (netlist : FlatNetlist) (i p : ℕ) → Passes cells netlist is_input_pin i p → Passes cells netlist is_output_pin i p → ⊥
not_pin cells netlist i p one other =
    let same : Some one.pin ≡ Some other.pin = sym one.here ∙ other.here in
    let pins = same_Some one.pin other.pin same in
    not_both other.pin.direction (ap (λ p. is_input_pin p.direction) (sym pins) ∙ one.pass) other.pass

module _ (cells : List NamedCells) (netlist : FlatNetlist) (linked : IsLinked cells netlist) (net : ℕ) (within : net < length netlist.nets) where
  driver_holds : All (Holds cells netlist is_output_pin) (option_to_list (net_at netlist net).driver)
  driver_holds =
      let joined = linked.joined net (net_at netlist net) (slice_get-get_or netlist.nets net no_net within) in
      subst (All (Holds cells netlist is_output_pin)) (sym joined.driver)
      (ends_hold cells netlist is_output_pin net (driving_ends cells netlist.ports netlist.instances)
      (All-append (HoldsOn cells netlist is_output_pin) (port_ends true 0 netlist.ports) (instance_ends cells is_output_pin 0 netlist.instances)
      (ports_hold cells netlist is_output_pin true 0 netlist.ports) (all_hold cells netlist is_output_pin)))

  sinks_hold : All (Holds cells netlist is_input_pin) (net_at netlist net).sinks
  sinks_hold =
      let joined = linked.joined net (net_at netlist net) (slice_get-get_or netlist.nets net no_net within) in
      subst (All (Holds cells netlist is_input_pin)) (sym joined.sinks)
      (ends_hold cells netlist is_input_pin net (driven_ends cells netlist.ports netlist.instances)
      (All-append (HoldsOn cells netlist is_input_pin) (instance_ends cells is_input_pin 0 netlist.instances) (port_ends false 0 netlist.ports)
      (all_hold cells netlist is_input_pin) (ports_hold cells netlist is_input_pin false 0 netlist.ports)))

  -- a sink of a net is not its driver
  pub sink_drives_not : (i pin : ℕ) → pin_place i pin (net_at netlist net).sinks < length (net_at netlist net).sinks → is_driver i pin (net_at netlist net).driver ≡ false
  sink_drives_not i pin some = by (net_at netlist net).driver driver_holds
    where
      input : Passes cells netlist is_input_pin i pin
      input = that_pin cells netlist is_input_pin i pin (get_or (net_at netlist net).sinks (pin_place i pin (net_at netlist net).sinks) (end.Port 0))
          (place_at i pin (net_at netlist net).sinks some)
          (All-get_or (Holds cells netlist is_input_pin) (net_at netlist net).sinks (pin_place i pin (net_at netlist net).sinks) (end.Port 0) some sinks_hold)

      is_not : (driver : End) → Holds cells netlist is_output_pin driver → (b : Bool) → is_pin i pin driver ≡ b → b ≡ false
      is_not driver holds false is = refl
      is_not driver holds true is = absurd (not_pin cells netlist i pin input (that_pin cells netlist is_output_pin i pin driver is holds))

      by : (driver : Option End) → All (Holds cells netlist is_output_pin) (option_to_list driver) → is_driver i pin driver ≡ false
      by None all = refl
      by (Some driver) all = is_not driver (All-head (Holds cells netlist is_output_pin) driver [] all) (is_pin i pin driver) refl
