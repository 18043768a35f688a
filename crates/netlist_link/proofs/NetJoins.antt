-- Each net that is kept has the ends that are on it, and each end is on a net.
use Rattle.std.proofs.Common.{◌≡◌, ℕ, suc, ◌<◌, ◌≤◌, Bool, true, false, not, if◌then◌else◌, ◌==◌, List, [], ◌∷◌, length, map, get_or, Option, Some, None, refl, sym, ap, ◌∙◌, subst, arith}
use Rattle.std.specs.Prelude.{All, slice_get, option_map, option_to_list}
use Rattle.std.proofs.lemmas.Option.{slice_get-get_or, slice_get_within, same_Some}
use Rattle.std.proofs.lemmas.List.{get_or-map, length-map}
use Rattle.std.proofs.lemmas.List.Elements.{All-nil, All-cons, All-append}
use Rattle.name_table.specs.Names.{AreDistinct}
use Rattle.cell_models.specs.NamedSets.{NamedCells}
use Rattle.cell_models.specs.declared.cell.Direction.{Direction}
use Rattle.cell_models.specs.declared.cell.Pin.{Pin}
use Rattle.verilog_netlist.specs.NetModules.{NetModule}
use Rattle.netlist_link.specs.FlatEnds.{end_of}
use Rattle.netlist_link.specs.FlatNetlist.{FlatInstance, FlatNet, FlatPort, no_net, end_at, port_ends, pin_ends, instance_ends, driving_ends, driven_ends, ends_on, is_output_pin, is_input_pin}
use Rattle.netlist_link.specs.FlatNetlist as flat
use Rattle.netlist_link.specs.FlatPins.{pins_of}
use Rattle.netlist_link.specs.Grouping.{IsByNet, AreOnNets, kept_on, count_on}
use Rattle.netlist_link.specs.KeptEnds.{flat_end, flat_ends, AreDrivers, IsDriversEnd, several_drive, no_memory_for}
use Rattle.netlist_link.specs.LinkEnds.{all_faults, net_texts, instance_texts, IsLinkEnd, several_drivers, no_memory}
use Rattle.netlist_link.specs.Linked.{IsJoined}
use Rattle.netlist_link.specs.Links.{AreInstances, ArePorts}
use Rattle.netlist_link.specs.NetlistTables.{kept_net, nets_in}
use Rattle.netlist_link.specs.declared.ends.LinkEnd.{LinkEnd}
use Rattle.netlist_link.specs.declared.grouping.EndOn.{EndOn}
use Rattle.netlist_link.specs.declared.grouping.EndsByNet.{EndsByNet}
use Rattle.netlist_link.specs.declared.grouping.KeptEnd.{KeptEnd}
use Rattle.netlist_link.specs.declared.ends.End.{End}
use Rattle.netlist_link.specs.declared.ends.End.TheVariants as end
use Rattle.netlist_link.proofs.NetlistReading.{kept_ends_are}
use Rattle.hierarchy.proofs.Numbered.{numbered_at, numbered_count}

-- the ends on a net, as they are kept and as they are
pub on_flat : (n : ℕ) (ends : List EndOn) → map end_of (kept_on n ends) ≡ ends_on n (flat_ends ends)
on_flat n [] = refl
on_flat n (x ∷ ends) = by (x.net == n) refl (on_flat n ends)
  where
    by : (is : Bool) → (x.net == n) ≡ is → map end_of (kept_on n ends) ≡ ends_on n (flat_ends ends)
        → map end_of (kept_on n (x ∷ ends)) ≡ ends_on n (flat_ends (x ∷ ends))
    by true is rest = rw is (ap (λ (l : List End). end_of x.at ∷ l) rest)
    by false is rest = rw is rest

pub count_flat : (n : ℕ) (ends : List EndOn) → count_on n ends ≡ length (ends_on n (flat_ends ends))
count_flat n ends = sym (length-map (kept_on n ends) end_of) ∙ ap length (on_flat n ends)

alone : (o : Option KeptEnd) → option_to_list (option_map end_of o) ≡ map end_of (option_to_list o)
alone None = refl
alone (Some x) = refl

-- a net of a netlist that is kept has its driver and its sinks
pub net_joined : (texts : List (List ℕ)) (drivers : List (Option KeptEnd)) (sinks : EndsByNet) (driving driven : List EndOn)
    → AreDrivers (length texts) driving drivers → IsByNet (length texts) driven sinks
    → (n : ℕ) (net : FlatNet) → slice_get (nets_in texts drivers sinks) n ≡ Some net → IsJoined (flat_ends driving) (flat_ends driven) n net
net_joined texts drivers sinks driving driven are by_net n net here =
    let many = numbered_count (kept_net texts drivers sinks) 0 (length texts) in
    let within = slice_get_within (nets_in texts drivers sinks) n net here in
    let below : n < length texts = omega arith in
    let is : kept_net texts drivers sinks n ≡ net =
    same_Some (kept_net texts drivers sinks n) net (ap Some (sym (numbered_at (kept_net texts drivers sinks) (length texts) n no_net below))
    ∙ sym (slice_get-get_or (nets_in texts drivers sinks) n no_net within) ∙ here) in
    subst (IsJoined (flat_ends driving) (flat_ends driven) n) is (record {
      driver = alone (get_or drivers n None) ∙ ap (map end_of) (are.each n below) ∙ on_flat n driving;
      sinks = ap (map end_of) (kept_ends_are (length texts) driven sinks by_net n below) ∙ on_flat n driven;
    })

-- the ends that are kept are on nets where those of the netlist are
pub on_nets : (nets : ℕ) (ends : List EndOn) → All (λ (e : flat.EndOn). e.net < nets) (flat_ends ends) → AreOnNets nets ends
on_nets nets ends all i d below =
    subst (λ (e : flat.EndOn). e.net < nets) (get_or-map flat_end ends i d (flat_end d) below)
    (all i (flat_end d) (let many = length-map ends flat_end in omega arith))

module _ (nets : ℕ) where
  abbrev IsOn : flat.EndOn → Type 0
  IsOn e = e.net < nets

  pub port_ends-on : (inputs : Bool) (from : ℕ) (ports : List FlatPort)
      → ((p : ℕ) (port : FlatPort) → slice_get ports p ≡ Some port → port.net < nets) → All IsOn (port_ends inputs from ports)
  port_ends-on inputs from [] each = All-nil IsOn
  port_ends-on inputs from (x ∷ ports) each =
      by (if inputs then x.is_input else not x.is_input) refl (each 0 x refl)
      (port_ends-on inputs (suc from) ports (λ p port is. each (suc p) port is))
    where
      by : (is : Bool) → (if inputs then x.is_input else not x.is_input) ≡ is → x.net < nets → All IsOn (port_ends inputs (suc from) ports)
          → All IsOn (port_ends inputs from (x ∷ ports))
      by true is here rest = rw is (All-cons IsOn (record { net = x.net; at = end.Port from }) (port_ends inputs (suc from) ports) here rest)
      by false is here rest = rw is rest

  end_at-on : (instance pin : ℕ) (net : Option ℕ) → ((n : ℕ) → net ≡ Some n → n < nets) → All IsOn (end_at instance pin net)
  end_at-on instance pin None each = All-nil IsOn
  end_at-on instance pin (Some n) each = All-cons IsOn (record { net = n; at = end.Pin instance pin }) [] (each n refl) (All-nil IsOn)

  pub pin_ends-on : (test : Direction → Bool) (instance from : ℕ) (pins : List Pin) (own : List (Option ℕ))
      → ((j n : ℕ) → slice_get own j ≡ Some (Some n) → n < nets) → All IsOn (pin_ends test instance from pins own)
  pin_ends-on test instance from [] own each = All-nil IsOn
  pin_ends-on test instance from (pin ∷ pins) [] each = All-nil IsOn
  pin_ends-on test instance from (pin ∷ pins) (net ∷ own) each =
      by (test pin.direction) refl (end_at-on instance from net (λ n is. each 0 n (ap Some is)))
      (pin_ends-on test instance (suc from) pins own (λ j n is. each (suc j) n is))
    where
      by : (is : Bool) → test pin.direction ≡ is → All IsOn (end_at instance from net) → All IsOn (pin_ends test instance (suc from) pins own)
          → All IsOn (pin_ends test instance from (pin ∷ pins) (net ∷ own))
      by true is here rest = rw is (All-append IsOn (end_at instance from net) (pin_ends test instance (suc from) pins own) here rest)
      by false is here rest = rw is rest

  module _ (cells : List NamedCells) where
    pub instance_ends-on : (test : Direction → Bool) (from : ℕ) (instances : List FlatInstance)
        → ((i j n : ℕ) (instance : FlatInstance) → slice_get instances i ≡ Some instance → slice_get instance.nets j ≡ Some (Some n) → n < nets)
        → All IsOn (instance_ends cells test from instances)
    instance_ends-on test from [] each = All-nil IsOn
    instance_ends-on test from (x ∷ instances) each =
        All-append IsOn (pin_ends test from 0 (pins_of cells x.cell) x.nets) (instance_ends cells test (suc from) instances)
        (pin_ends-on test from 0 (pins_of cells x.cell) x.nets (λ j n is. each 0 j n x refl is))
        (instance_ends-on test (suc from) instances (λ i j n instance here is. each (suc i) j n instance here is))

    module _ (ports : List FlatPort) (instances : List FlatInstance)
        (on_port : (p : ℕ) (port : FlatPort) → slice_get ports p ≡ Some port → port.net < nets)
        (on_pin : (i j n : ℕ) (instance : FlatInstance) → slice_get instances i ≡ Some instance → slice_get instance.nets j ≡ Some (Some n) → n < nets) where
      pub driving-on : (ends : List EndOn) → flat_ends ends ≡ driving_ends cells ports instances → AreOnNets nets ends
      driving-on ends is = on_nets nets ends (subst (All IsOn) (sym is)
          (All-append IsOn (port_ends true 0 ports) (instance_ends cells is_output_pin 0 instances) (port_ends-on true 0 ports on_port)
          (instance_ends-on is_output_pin 0 instances on_pin)))

      pub driven-on : (ends : List EndOn) → flat_ends ends ≡ driven_ends cells ports instances → AreOnNets nets ends
      driven-on ends is = on_nets nets ends (subst (All IsOn) (sym is)
          (All-append IsOn (instance_ends cells is_input_pin 0 instances) (port_ends false 0 ports) (instance_ends-on is_input_pin 0 instances on_pin)
          (port_ends-on false 0 ports on_port)))

-- the first net that two ends drive is why the design has no flat netlist
pub refused_drivers : (modules : List NetModule) (top : ℕ) (cells : List NamedCells) (ports : List FlatPort) (instances : List FlatInstance)
    (texts : List (List ℕ)) (driving : List EndOn) (end : LinkEnd) → all_faults modules top cells ≡ []
    → AreDistinct (net_texts modules top cells) → AreDistinct (instance_texts modules top cells) → AreInstances modules top cells instances
    → ArePorts modules top cells ports → texts ≡ net_texts modules top cells → flat_ends driving ≡ driving_ends cells ports instances
    → IsDriversEnd texts driving end → IsLinkEnd modules top cells end
refused_drivers modules top cells ports instances texts driving end faultless net_names instance_names are_instances are_ports named is no_memory_for = no_memory
refused_drivers modules top cells ports instances texts driving end faultless net_names instance_names are_instances are_ports named is
    (several_drive n text here many first) =
    let count : (m : ℕ) → count_on m driving ≡ length (ends_on m (driving_ends cells ports instances)) =
    (λ m. count_flat m driving ∙ ap (λ (l : List flat.EndOn). length (ends_on m l)) is) in
    several_drivers n text faultless net_names instance_names (record {
      instances = instances;
      ports = ports;
      are_instances = are_instances;
      are_ports = are_ports;
      several = subst (λ (k : ℕ). 2 ≤ k) (count n) many;
      earlier = λ m less. subst (λ (k : ℕ). k ≤ 1) (count m) (first m less);
    }) (subst (λ (l : List (List ℕ)). slice_get l n ≡ Some text) named here)
