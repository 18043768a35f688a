-- What a netlist's instances and ports have is on nets, and its nets are joined.
use Rattle.std.proofs.Common.{◌≡◌, ℕ, ◌<◌, List, length, get_or, Option, Some, None, ap, ◌∙◌, subst, arith}
use Rattle.std.specs.Prelude.{slice_get}
use Rattle.std.proofs.lemmas.Option.{slice_get-get_or, slice_get_within}
use Rattle.std.proofs.lemmas.List.{length-map}
use Rattle.cell_models.specs.NamedSets.{NamedCells, set_names}
use Rattle.verilog_netlist.specs.NetModules.{NetModule}
use Rattle.hierarchy.specs.Walks.{cells_met}
use Rattle.hierarchy.specs.WalkTables.{no_met}
use Rattle.netlist_link.specs.FlatBits.{NetBit, nets, top_ports}
use Rattle.netlist_link.specs.FlatNetlist.{FlatInstance, FlatNet, FlatPort, driving_ends, driven_ends, ends_on}
use Rattle.netlist_link.specs.FlatPins.{pins_of, net_on_pin, IsNumbered}
use Rattle.netlist_link.specs.Grouping.{IsByNet}
use Rattle.netlist_link.specs.KeptEnds.{flat_ends, AreDrivers, HavePins}
use Rattle.netlist_link.specs.Linked.{IsJoined}
use Rattle.netlist_link.specs.Links.{AreInstances, ArePorts, IsInstanceOf}
use Rattle.netlist_link.specs.NetlistTables.{nets_in}
use Rattle.netlist_link.specs.PortRows.{top_bit}
use Rattle.netlist_link.specs.declared.grouping.EndOn.{EndOn}
use Rattle.netlist_link.specs.declared.grouping.EndsByNet.{EndsByNet}
use Rattle.netlist_link.specs.declared.grouping.KeptEnd.{KeptEnd}
use Rattle.netlist_link.proofs.Joining.{no_pin}
use Rattle.netlist_link.proofs.NetJoins.{net_joined}

module _ (modules : List NetModule) (top : ℕ) where
  numbered_below : (bit : Option NetBit) (n : ℕ) → IsNumbered modules top bit (Some n) → n < length (nets modules top)
  numbered_below None n is = absurd is
  numbered_below (Some bit) n is = slice_get_within (nets modules top) n bit is

  module _ (cells : List NamedCells) where
    pub ports-on : (ports : List FlatPort) → ArePorts modules top cells ports → (p : ℕ) (port : FlatPort) → slice_get ports p ≡ Some port
        → port.net < length (nets modules top)
    ports-on ports are p port here =
        let within = slice_get_within ports p port here in
        let count = are.count in
        let bit = get_or (top_ports modules top) p (top_bit 0 0) in
        slice_get_within (nets modules top) port.net bit
        (are.each p bit port (slice_get-get_or (top_ports modules top) p (top_bit 0 0) (omega arith)) here).net

    module _ (instances : List FlatInstance) (are : AreInstances modules top cells instances) where
      instance_is : (i : ℕ) (instance : FlatInstance) → slice_get instances i ≡ Some instance
          → IsInstanceOf modules top cells (get_or (cells_met modules top) i no_met) instance
      instance_is i instance here =
          let within = slice_get_within instances i instance here in
          let count = are.count in
          are.each i (get_or (cells_met modules top) i no_met) instance (slice_get-get_or (cells_met modules top) i no_met (omega arith)) here

      pub have_pins : HavePins cells instances
      have_pins = record {
        cell = λ i instance here. subst (λ (n : ℕ). instance.cell < n) (length-map cells _)
            (slice_get_within (set_names cells) instance.cell _ (instance_is i instance here).cell);
        pins = λ i instance here. (instance_is i instance here).pins;
      }

      pub pins-on : (i j n : ℕ) (instance : FlatInstance) → slice_get instances i ≡ Some instance → slice_get instance.nets j ≡ Some (Some n)
          → n < length (nets modules top)
      pins-on i j n instance here net =
          let is = instance_is i instance here in
          let within = slice_get_within instance.nets j (Some n) net in
          let count = is.pins in
          let pin = get_or (pins_of cells instance.cell) j no_pin in
          numbered_below (net_on_pin modules top (get_or (cells_met modules top) i no_met) pin.name) n
          (is.on j pin (Some n) (slice_get-get_or (pins_of cells instance.cell) j no_pin (omega arith)) net)

-- the nets that are kept are joined to the ends of the netlist
pub nets_joined : (cells : List NamedCells) (ports : List FlatPort) (instances : List FlatInstance) (texts : List (List ℕ))
    (drivers : List (Option KeptEnd)) (sinks : EndsByNet) (driving driven : List EndOn)
    → flat_ends driving ≡ driving_ends cells ports instances → flat_ends driven ≡ driven_ends cells ports instances
    → AreDrivers (length texts) driving drivers → IsByNet (length texts) driven sinks
    → (n : ℕ) (net : FlatNet) → slice_get (nets_in texts drivers sinks) n ≡ Some net
    → IsJoined (driving_ends cells ports instances) (driven_ends cells ports instances) n net
nets_joined cells ports instances texts drivers sinks driving driven driving_is driven_is are by_net n net here =
    let joined = net_joined texts drivers sinks driving driven are by_net n net here in
    record {
      driver = joined.driver ∙ ap (λ l. ends_on n l) driving_is;
      sinks = joined.sinks ∙ ap (λ l. ends_on n l) driven_is;
    }
