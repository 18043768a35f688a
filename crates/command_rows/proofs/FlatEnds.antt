-- What drives a net of a linked netlist stands in it.
use Rattle.std.proofs.Common.{◌≡◌, ℕ, zero, suc, ◌+◌, ◌<◌, ◌≤◌, Bool, true, false, cond, List, [], ◌∷◌, ◌++◌, length, get_or, Option, Some, None, refl, sym, ap, ◌∙◌, subst, arith, add-zero}
use Rattle.std.specs.Prelude.{All, slice_get, option_to_list, ◌==◌}
use Rattle.std.proofs.lemmas.List.Elements.{All-nil, All-cons, All-append, All-contains}
use Rattle.std.proofs.lemmas.Option.{slice_get-get_or, get_or_from_slice_get}
use Rattle.cell_models.specs.NamedSets.{NamedCells}
use Rattle.cell_models.specs.declared.cell.Direction.{Direction}
use Rattle.cell_models.specs.declared.cell.Pin.{Pin}
use Rattle.netlist_link.specs.FlatNetlist.{FlatInstance, FlatPort, FlatNet, FlatNetlist, EndOn, no_instance, no_net, instance_at, net_at, port_ends, end_at, pin_ends, instance_ends, is_output_pin, driving_ends, ends_on}
use Rattle.netlist_link.specs.FlatPins.{pins_of}
use Rattle.netlist_link.specs.Linked.{IsLinked}
use Rattle.netlist_link.specs.declared.ends.End.{End}
use Rattle.netlist_link.specs.declared.ends.End.TheVariants as end
use Rattle.refusals.proofs.Places.{some_is, within, at_contains, map_get, stood}

module _ (cells : List NamedCells) (netlist : FlatNetlist) where
  -- an end that the netlist has
  abbrev IsThere : End → Type 0
  IsThere (end.Port p) = p < length netlist.ports
  IsThere (end.Pin i pin) = (i < length netlist.instances) × (pin < length (pins_of cells (instance_at netlist i).cell))

  abbrev EndThere : EndOn → Type 0
  EndThere e = IsThere e.at

  one_or_not : (b : Bool) (e : EndOn) (rest : List EndOn) → EndThere e → All EndThere rest → All EndThere (cond b (e ∷ rest) rest)
  one_or_not true e rest there all = All-cons EndThere e rest there all
  one_or_not false e rest there all = all

  ports_there : (inputs : Bool) (from : ℕ) (ports : List FlatPort) → from + length ports ≤ length netlist.ports → All EndThere (port_ends inputs from ports)
  ports_there inputs from [] few = All-nil EndThere
  ports_there inputs from (port ∷ ports) few =
      one_or_not _ (record { net = port.net; at = end.Port from }) (port_ends inputs (suc from) ports) (omega (arith, few)) (ports_there inputs (suc from) ports (omega (arith, few)))

  module _ (test : Direction → Bool) where
    end_there : (i pin : ℕ) (net : Option ℕ) → IsThere (end.Pin i pin) → All EndThere (end_at i pin net)
    end_there i pin None there = All-nil EndThere
    end_there i pin (Some net) there = All-cons EndThere (record { net = net; at = end.Pin i pin }) [] there (All-nil EndThere)

    some_or_not : (b : Bool) (es rest : List EndOn) → All EndThere es → All EndThere rest → All EndThere (cond b (es ++ rest) rest)
    some_or_not true es rest there all = All-append EndThere es rest there all
    some_or_not false es rest there all = all

    pins_there : (i from : ℕ) (pins : List Pin) (nets : List (Option ℕ)) → i < length netlist.instances → from + length pins ≤ length (pins_of cells (instance_at netlist i).cell) → All EndThere (pin_ends test i from pins nets)
    pins_there i from [] nets below few = All-nil EndThere
    pins_there i from (pin ∷ pins) [] below few = All-nil EndThere
    pins_there i from (pin ∷ pins) (net ∷ nets) below few =
        some_or_not (test pin.direction) (end_at i from net) (pin_ends test i (suc from) pins nets) (end_there i from net (below, omega (arith, few))) (pins_there i (suc from) pins nets below (omega (arith, few)))

    instances_there : (from : ℕ) (instances : List FlatInstance) → ((k : ℕ) (instance : FlatInstance) → slice_get instances k ≡ Some instance → slice_get netlist.instances (from + k) ≡ Some instance)
        → All EndThere (instance_ends cells test from instances)
    instances_there from [] same = All-nil EndThere
    instances_there from (instance ∷ instances) same =
        let here : slice_get netlist.instances from ≡ Some instance = ap (λ n. slice_get netlist.instances n) (sym (add-zero from)) ∙ same 0 instance refl in
        let is : instance_at netlist from ≡ instance = get_or_from_slice_get netlist.instances from instance no_instance here in
        let pins : length (pins_of cells instance.cell) ≡ length (pins_of cells (instance_at netlist from).cell) = ap (λ (x : FlatInstance). length (pins_of cells x.cell)) (sym is) in
        All-append EndThere (pin_ends test from 0 (pins_of cells instance.cell) instance.nets) (instance_ends cells test (suc from) instances)
        (pins_there from 0 (pins_of cells instance.cell) instance.nets (within netlist.instances from instance here) (omega (arith, pins)))
        (instances_there (suc from) instances (λ k next e. ap (λ n. slice_get netlist.instances n) (let place : suc from + k ≡ from + suc k = omega arith in place) ∙ same (suc k) next e))

  driving_there : All EndThere (driving_ends cells netlist.ports netlist.instances)
  driving_there = All-append EndThere (port_ends true 0 netlist.ports) (instance_ends cells is_output_pin 0 netlist.instances)
      (ports_there true 0 netlist.ports (omega arith)) (instances_there is_output_pin 0 netlist.instances (λ k instance e. ap (λ n. slice_get netlist.instances n) (let zero_more : 0 + k ≡ k = omega arith in zero_more) ∙ e))

  module _ (linked : IsLinked cells netlist) where
    there_of : (n : ℕ) (driver : End) → n < length netlist.nets → (net_at netlist n).driver ≡ Some driver → IsThere driver
    there_of n driver below drives =
        let net : FlatNet = net_at netlist n in
        let joined = linked.joined n net (slice_get-get_or netlist.nets n no_net below) in
        let list : ends_on n (driving_ends cells netlist.ports netlist.instances) ≡ driver ∷ [] = sym joined.driver ∙ ap (λ d. option_to_list d) drives in
        let first = map_get (λ (e : EndOn). e.at) _ 0 driver (ap (λ (l : List End). slice_get l 0) list) in
        let at = stood (λ (e : EndOn). e.net == n) (driving_ends cells netlist.ports netlist.instances) 0 first.0 first.1 in
        subst IsThere first.2 (All-contains EndThere (driving_ends cells netlist.ports netlist.instances) first.0 driving_there (at_contains (driving_ends cells netlist.ports netlist.instances) at.0 first.0 at.1))

    pub port_there : (n p : ℕ) → n < length netlist.nets → (net_at netlist n).driver ≡ Some (end.Port p) → p < length netlist.ports
    port_there n p below drives = there_of n (end.Port p) below drives

    pub instance_there : (n i pin : ℕ) → n < length netlist.nets → (net_at netlist n).driver ≡ Some (end.Pin i pin) → i < length netlist.instances
    instance_there n i pin below drives = (there_of n (end.Pin i pin) below drives).0

    pub pin_there : (n i pin : ℕ) → n < length netlist.nets → (net_at netlist n).driver ≡ Some (end.Pin i pin) → pin < length (pins_of cells (instance_at netlist i).cell)
    pin_there n i pin below drives = (there_of n (end.Pin i pin) below drives).1

    pub cell_there : (i : ℕ) → i < length netlist.instances → (instance_at netlist i).cell < length cells
    cell_there i below = linked.cell i (instance_at netlist i) (slice_get-get_or netlist.instances i no_instance below)
