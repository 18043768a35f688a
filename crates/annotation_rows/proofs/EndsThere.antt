-- What the nets of a linked netlist join stands in it, and is on them.
use Rattle.std.proofs.Common.{◌≡◌, ℕ, suc, ◌+◌, ◌<◌, ◌≤◌, Bool, true, false, cond, List, [], ◌∷◌, ◌++◌, length, map, get_or, Option, Some, None, refl, sym, ap, ◌∙◌, subst, arith, add-zero}
use Rattle.std.specs.Prelude.{All, slice_get, option_to_list, ◌==◌, filter, ⊤}
use Rattle.std.proofs.lemmas.Bool.{eqb-true}
use Rattle.std.proofs.lemmas.List.Elements.{All-nil, All-cons, All-append, All-head, All-tail, All-get_or}
use Rattle.std.proofs.lemmas.Option.{slice_get-get_or, slice_get_within, get_or_from_slice_get}
use Rattle.cell_models.specs.NamedSets.{NamedCells}
use Rattle.cell_models.specs.declared.cell.Direction.{Direction}
use Rattle.cell_models.specs.declared.cell.Pin.{Pin}
use Rattle.netlist_link.specs.FlatNetlist.{FlatInstance, FlatPort, FlatNetlist, EndOn, no_instance, no_net, instance_at, net_at, port_ends, end_at, pin_ends, instance_ends, is_input_pin, is_output_pin, driving_ends, driven_ends, ends_on}
use Rattle.netlist_link.specs.FlatPins.{pins_of}
use Rattle.netlist_link.specs.Linked.{IsLinked}
use Rattle.netlist_link.specs.declared.ends.End.{End}
use Rattle.netlist_link.specs.declared.ends.End.TheVariants as end
use Rattle.slew_order.specs.FlatArcs.{net_on}
use Rattle.annotation_rows.specs.SdfEnds.{IsEndThere, pin_count}

module _ (cells : List NamedCells) (netlist : FlatNetlist) where
  -- a pin is on a net
  abbrev pub IsPinOn : ℕ → End → Type 0
  IsPinOn net (end.Port port) = ⊤
  IsPinOn net (end.Pin instance pin) = net_on netlist instance pin ≡ Some net

  abbrev IsOnThere : EndOn → Type 0
  IsOnThere e = IsEndThere cells netlist e.at × IsPinOn e.net e.at

  one_or_not : (b : Bool) (e : EndOn) (rest : List EndOn) → IsOnThere e → All IsOnThere rest → All IsOnThere (cond b (e ∷ rest) rest)
  one_or_not true e rest there all = All-cons IsOnThere e rest there all
  one_or_not false e rest there all = all

  ports_there : (inputs : Bool) (from : ℕ) (ports : List FlatPort) → from + length ports ≤ length netlist.ports → All IsOnThere (port_ends inputs from ports)
  ports_there inputs from [] few = All-nil IsOnThere
  ports_there inputs from (port ∷ ports) few =
      one_or_not _ (record { net = port.net; at = end.Port from }) (port_ends inputs (suc from) ports) (omega (arith, few), tt) (ports_there inputs (suc from) ports (omega (arith, few)))

  module _ (test : Direction → Bool) where
    end_there : (i pin : ℕ) (net : Option ℕ) → IsEndThere cells netlist (end.Pin i pin) → net_on netlist i pin ≡ net → All IsOnThere (end_at i pin net)
    end_there i pin None there on = All-nil IsOnThere
    end_there i pin (Some net) there on = All-cons IsOnThere (record { net = net; at = end.Pin i pin }) [] (there, on) (All-nil IsOnThere)

    some_or_not : (b : Bool) (es rest : List EndOn) → All IsOnThere es → All IsOnThere rest → All IsOnThere (cond b (es ++ rest) rest)
    some_or_not true es rest there all = All-append IsOnThere es rest there all
    some_or_not false es rest there all = all

    pins_there : (i from : ℕ) (pins : List Pin) (nets : List (Option ℕ)) → i < length netlist.instances → from + length pins ≤ pin_count cells netlist i
        → ((k : ℕ) → net_on netlist i (from + k) ≡ get_or nets k None) → All IsOnThere (pin_ends test i from pins nets)
    pins_there i from [] nets below few on = All-nil IsOnThere
    pins_there i from (pin ∷ pins) [] below few on = All-nil IsOnThere
    pins_there i from (pin ∷ pins) (net ∷ nets) below few on =
        let at : from ≡ from + 0 = omega arith in
        some_or_not (test pin.direction) (end_at i from net) (pin_ends test i (suc from) pins nets)
        (end_there i from net (below, omega (arith, few)) (ap (net_on netlist i) at ∙ on 0))
        (pins_there i (suc from) pins nets below (omega (arith, few)) (λ k. ap (net_on netlist i) (let next : suc from + k ≡ from + suc k = omega arith in next) ∙ on (suc k)))

    instances_there : (from : ℕ) (instances : List FlatInstance) → ((k : ℕ) (instance : FlatInstance) → slice_get instances k ≡ Some instance → slice_get netlist.instances (from + k) ≡ Some instance)
        → All IsOnThere (instance_ends cells test from instances)
    instances_there from [] same = All-nil IsOnThere
    instances_there from (instance ∷ instances) same =
        let here : slice_get netlist.instances from ≡ Some instance = ap (λ n. slice_get netlist.instances n) (sym (add-zero from)) ∙ same 0 instance refl in
        let is : instance_at netlist from ≡ instance = get_or_from_slice_get netlist.instances from instance no_instance here in
        let pins : length (pins_of cells instance.cell) ≡ pin_count cells netlist from = ap (λ (x : FlatInstance). length (pins_of cells x.cell)) (sym is) in
        All-append IsOnThere (pin_ends test from 0 (pins_of cells instance.cell) instance.nets) (instance_ends cells test (suc from) instances)
        (pins_there from 0 (pins_of cells instance.cell) instance.nets (slice_get_within netlist.instances from instance here) (omega (arith, pins))
        (λ k. ap (net_on netlist from) (let start : 0 + k ≡ k = omega arith in start) ∙ ap (λ (x : FlatInstance). get_or x.nets k None) is))
        (instances_there (suc from) instances (λ k next e. ap (λ n. slice_get netlist.instances n) (let place : suc from + k ≡ from + suc k = omega arith in place) ∙ same (suc k) next e))

    all_instances : All IsOnThere (instance_ends cells test 0 netlist.instances)
    all_instances = instances_there 0 netlist.instances (λ k instance e. ap (λ n. slice_get netlist.instances n) (let zero_more : 0 + k ≡ k = omega arith in zero_more) ∙ e)

  all_ports : (inputs : Bool) → All IsOnThere (port_ends inputs 0 netlist.ports)
  all_ports inputs = ports_there inputs 0 netlist.ports (omega arith)

  driving_there : All IsOnThere (driving_ends cells netlist.ports netlist.instances)
  driving_there = All-append IsOnThere (port_ends true 0 netlist.ports) (instance_ends cells is_output_pin 0 netlist.instances) (all_ports true) (all_instances is_output_pin)

  driven_there : All IsOnThere (driven_ends cells netlist.ports netlist.instances)
  driven_there = All-append IsOnThere (instance_ends cells is_input_pin 0 netlist.instances) (port_ends false 0 netlist.ports) (all_instances is_input_pin) (all_ports false)

  -- an end that the netlist has, on a net
  abbrev IsThereOn : ℕ → End → Type 0
  IsThereOn net e = IsEndThere cells netlist e × IsPinOn net e

  on_there : (net : ℕ) (ends : List EndOn) → All IsOnThere ends → All (IsThereOn net) (ends_on net ends)
  on_there net [] all = All-nil (IsThereOn net)
  on_there net (e ∷ ends) all = by (e.net == net) refl (on_there net ends (All-tail IsOnThere e ends all))
    where
      by : (b : Bool) → (e.net == net) ≡ b → All (IsThereOn net) (ends_on net ends) → All (IsThereOn net) (map (λ (e : EndOn). e.at) (cond b (e ∷ filter (λ (e : EndOn). e.net == net) ends) (filter (λ (e : EndOn). e.net == net) ends)))
      by true is rest =
          let there = All-head IsOnThere e ends all in
          All-cons (IsThereOn net) e.at (ends_on net ends) (there.0, subst (λ n. IsPinOn n e.at) (eqb-true e.net net is) there.1) rest
      by false is rest = rest

  module _ (linked : IsLinked cells netlist) where
    pub cell_there : (i : ℕ) → i < length netlist.instances → (instance_at netlist i).cell < length cells
    cell_there i within = linked.cell i (instance_at netlist i) (slice_get-get_or netlist.instances i no_instance within)

    -- what drives a net
    driver_on : (net : ℕ) (driver : End) → net < length netlist.nets → (net_at netlist net).driver ≡ Some driver → IsThereOn net driver
    driver_on net driver below drives =
        let joined = linked.joined net (net_at netlist net) (slice_get-get_or netlist.nets net no_net below) in
        let list : driver ∷ [] ≡ ends_on net (driving_ends cells netlist.ports netlist.instances) = sym (ap (λ d. option_to_list d) drives) ∙ joined.driver in
        All-head (IsThereOn net) driver [] (subst (All (IsThereOn net)) (sym list) (on_there net (driving_ends cells netlist.ports netlist.instances) driving_there))

    pub driver_there : (net : ℕ) (driver : End) → net < length netlist.nets → (net_at netlist net).driver ≡ Some driver → IsEndThere cells netlist driver
    driver_there net driver below drives = (driver_on net driver below drives).0

    pub driver_joined : (net : ℕ) (driver : End) → net < length netlist.nets → (net_at netlist net).driver ≡ Some driver → IsPinOn net driver
    driver_joined net driver below drives = (driver_on net driver below drives).1

    -- a sink of a net
    sink_on : (net sink : ℕ) → net < length netlist.nets → sink < length (net_at netlist net).sinks → IsThereOn net (get_or (net_at netlist net).sinks sink (end.Port 0))
    sink_on net sink below within =
        let joined = linked.joined net (net_at netlist net) (slice_get-get_or netlist.nets net no_net below) in
        All-get_or (IsThereOn net) (net_at netlist net).sinks sink (end.Port 0) within
        (subst (All (IsThereOn net)) (sym joined.sinks) (on_there net (driven_ends cells netlist.ports netlist.instances) driven_there))

    pub sink_there : (net sink : ℕ) → net < length netlist.nets → sink < length (net_at netlist net).sinks
        → IsEndThere cells netlist (get_or (net_at netlist net).sinks sink (end.Port 0))
    sink_there net sink below within = (sink_on net sink below within).0

    pub sink_joined : (net sink : ℕ) → net < length netlist.nets → sink < length (net_at netlist net).sinks → IsPinOn net (get_or (net_at netlist net).sinks sink (end.Port 0))
    sink_joined net sink below within = (sink_on net sink below within).1
