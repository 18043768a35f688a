-- A pin that is on a net has a name, since a connection names it.
use Rattle.std.proofs.Common.{◌≡◌, ◌≢◌, ℕ, ◌<◌, Bool, true, false, List, [], ◌∷◌, length, get_or, All, Option, Some, None, if◌then◌else◌, refl, sym, ap, ◌∙◌, subst, arith}
use Rattle.std.specs.Prelude.{slice_get}
use Rattle.std.specs.List.{find}
use Rattle.std.specs.Option.{option_and_then}
use Rattle.std.specs.Str.{bytes_eq}
use Rattle.std.proofs.lemmas.List.Elements.{All-get_or, All-head, All-tail}
use Rattle.std.proofs.lemmas.Option.{slice_get-get_or, slice_get_within}
use Rattle.std.proofs.lemmas.Slice.Eq.{bytes_eq-Decides}
use Rattle.cell_models.specs.NamedSets.{NamedCells}
use Rattle.cell_models.specs.declared.cell.Pin.{Pin}
use Rattle.verilog_netlist.specs.NetModules.{NetModule, NetConnection, bits_in, instance_at}
use Rattle.verilog_netlist.specs.SoundModules.{HasNames, IsPortNamed}
use Rattle.verilog_netlist.specs.declared.runs.Bit.{Bit}
use Rattle.hierarchy.specs.Hierarchy.{module_on}
use Rattle.hierarchy.specs.Walks.{Met, met_instance, is_module, whole_walk, cells_met}
use Rattle.hierarchy.specs.WalkTables.{no_met}
use Rattle.hierarchy.specs.WalkLaws.{StandsIn, met-stand}
use Rattle.netlist_link.specs.FlatBits.{NetBit, some_bits, joined_to}
use Rattle.netlist_link.specs.FlatDesigns.{IsFlatDesign}
use Rattle.netlist_link.specs.FlatNetlist.{FlatInstance, FlatNetlist}
use Rattle.netlist_link.specs.FlatPins.{pins_of, wired, net_on_pin, IsNumbered}
use Rattle.netlist_spelling.specs.SpelledNetlists.{ArePinsNamed}
use Rattle.netlist_spelling.proofs.NamedModules.{connections_named}
use Rattle.netlist_spelling.proofs.SpelledPaths.{cells_stand}

-- a connection that is found names a port that has a byte
found_named : (connections : List NetConnection) (port : List ℕ) (found : Option NetConnection) → All IsPortNamed connections
    → find (λ connection. bytes_eq port connection.port) connections ≡ found → (connection : NetConnection) → found ≡ Some connection → port ≢ []
found_named [] port found all is connection some empty = cc
found_named (first ∷ rest) port found all is connection some empty =
    by (λ later. found_named rest port found (All-tail IsPortNamed first rest all) later connection some empty) (bytes_eq port first.port) refl
  where
    by : (find (λ (c : NetConnection). bytes_eq port c.port) rest ≡ found → ⊥) → (here : Bool) → bytes_eq port first.port ≡ here → ⊥
    by behind true same = All-head IsPortNamed first rest all (sym ((bytes_eq-Decides port first.port).0 same) ∙ empty)
    by behind false other =
        behind (ap (λ here. if here then Some first else find (λ (c : NetConnection). bytes_eq port c.port) rest) (sym other) ∙ is)

joined_named : (connections : List NetConnection) (port : List ℕ) (bits : List Bit) → All IsPortNamed connections
    → joined_to connections port ≡ Some bits → port ≢ []
joined_named connections port bits all joined = by (find (λ connection. bytes_eq port connection.port) connections) refl joined
  where
    by : (found : Option NetConnection) → find (λ connection. bytes_eq port connection.port) connections ≡ found
        → option_and_then (λ connection. some_bits (bits_in connection.runs)) found ≡ Some bits → port ≢ []
    by None is some = absurd (cc)
    by (Some connection) is some = found_named connections port (Some connection) all is connection refl

module _ (modules : List NetModule) (top : ℕ) (named : All HasNames modules) where
  pin_named : (met : Met) (port : List ℕ) (net : NetBit) → StandsIn modules top met → net_on_pin modules top met port ≡ Some net → port ≢ []
  pin_named met port net stands on = by (joined_to (met_instance modules top met).connections port) refl on
    where
      by : (joined : Option (List Bit)) → joined_to (met_instance modules top met).connections port ≡ joined
          → option_and_then (λ bits. option_and_then (wired modules top met.path) (slice_get bits 0)) joined ≡ Some net → port ≢ []
      by None is some = absurd (cc)
      by (Some bits) is some =
          joined_named (met_instance modules top met).connections port bits
          (connections_named modules named (module_on modules top met.path) met.instance stands.within) is

  numbered_named : (met : Met) (port : List ℕ) (number : ℕ) → StandsIn modules top met → IsNumbered modules top (net_on_pin modules top met port) (Some number)
      → port ≢ []
  numbered_named met port number stands numbered = by (net_on_pin modules top met port) refl numbered
    where
      by : (on : Option NetBit) → net_on_pin modules top met port ≡ on → IsNumbered modules top on (Some number) → port ≢ []
      by None is none = absurd none
      by (Some net) is some = pin_named met port net stands is

pub pins_named : (modules : List NetModule) (name : List ℕ) (cells : List NamedCells) (netlist : FlatNetlist)
    → All HasNames modules → IsFlatDesign modules name cells netlist → ArePinsNamed cells netlist
pins_named modules name cells netlist named design i j instance pin net at pin_at net_at =
    let count = design.is.instances.count in
    let within : i < length netlist.instances = slice_get_within netlist.instances i instance at in
    let below : i < length (cells_met modules design.top) = omega arith in
    let met : Met = get_or (cells_met modules design.top) i no_met in
    let own = design.is.instances.each i met instance (slice_get-get_or (cells_met modules design.top) i no_met below) at in
    numbered_named modules design.top named met pin.name net
    (All-get_or (StandsIn modules design.top) (cells_met modules design.top) i no_met below (cells_stand modules design.top)) (own.on j pin (Some net) pin_at net_at)
