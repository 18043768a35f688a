-- The instances of cells along the walk, one after another, and the nets of their pins.
use Rattle.std.specs.Prelude.{◌≡◌, ℕ, not, List, [], ◌∷◌, ◌++◌, length, filter, take, get_or, slice_get, Option, Some, None, ⊤}
use Rattle.std.specs.Option.{option_and_then}
use Rattle.verilog_netlist.specs.NetModules.{NetConnection, no_connection}
use Rattle.verilog_netlist.specs.declared.runs.Bit.{Bit}
use Rattle.cell_models.specs.NamedSets.{NamedCells}
use Rattle.cell_models.specs.declared.cell.Pin.{Pin}
use Rattle.hierarchy.specs.Walks.{Met, is_module}
use Rattle.netlist_link.specs.FlatBits.{NetBit, joined_to}
use Rattle.netlist_link.specs.FlatNames.{instance_text, instance_sdf}
use Rattle.netlist_link.specs.FlatPins.{pins_of, wired, IsNumbered}
use Rattle.netlist_link.specs.Links.{IsInstanceOf}
use Rattle.netlist_link.specs.PathTables.{top_of}
use Rattle.netlist_link.specs.Designs.{met_of, walk_of, connections_of, OverCells}
use Rattle.netlist_link.specs.InstanceTables.{kept_instance, AreInstanceTables}
use Rattle.netlist_link.specs.declared.checking.Design.{Design}
use Rattle.netlist_link.specs.declared.instances.InstanceRow.{InstanceRow}
use Rattle.netlist_link.specs.declared.instances.Instances.{Instances}

-- a connection of an instance that is met
abbrev pub connection_of : Design → ℕ → ℕ → NetConnection
connection_of d i c = get_or (connections_of d i) c no_connection

-- the net that is joined to a pin of this name by these connections of an instance at a path
abbrev pub net_by : Design → List ℕ → List NetConnection → List ℕ → Option NetBit
net_by d path connections pin =
    option_and_then (λ bits. option_and_then (wired d.modules.now (top_of d.walk.now) path) (slice_get bits 0)) (joined_to connections pin)

-- the net of the first of these bits at a path, where there is a bit
abbrev pub IsFirstNet : Design → List ℕ → List Bit → Option (Option ℕ) → Type 0
IsFirstNet d path [] None = ⊤
IsFirstNet d path (bit ∷ bits) (Some net) =
    IsNumbered d.modules.now (top_of d.walk.now) (wired d.modules.now (top_of d.walk.now) path bit) net
IsFirstNet _ _ _ _ = ⊥

-- each pin has the net that these connections join to it, or none
pub record ArePinNets (d : Design) (path : List ℕ) (pins : List Pin) (connections : List NetConnection) (nets : List (Option ℕ))
    : Type 0 where
  pub count : length nets ≡ length pins
  pub on : (j : ℕ) (pin : Pin) → slice_get pins j ≡ Some pin
      → IsNumbered d.modules.now (top_of d.walk.now) (net_by d path connections pin.name) (get_or nets j None)

-- the nets of the pins of an instance that is met, whose cell has this place
abbrev pub AreNetsOf : Design → ℕ → ℕ → List (Option ℕ) → List NamedCells → Type 0
AreNetsOf d i place nets cells = ArePinNets d (met_of d i).path (pins_of cells place) (connections_of d i) nets

-- one instance more has a row, and behind the nets of the pins of those before it the nets of its own
pub record IsRowMore (d : Design) (i place : ℕ) (old_rows rows : List InstanceRow) (old_nets nets : List (Option ℕ)) : Type 0 where
  pub own : List (Option ℕ)
  pub nets_are : nets ≡ old_nets ++ own
  pub rows_are : rows ≡ old_rows ++ record { cell = place; first_pin = length old_nets; pin_count = length own } ∷ []
  pub are : OverCells d (AreNetsOf d i place own)

-- one instance more is kept, and its names
pub record IsInstanceMore (d : Design) (i place : ℕ) (old new : Instances) : Type 0 where
  pub row : IsRowMore d i place old.rows.items new.rows.items old.pin_nets.items new.pin_nets.items
  pub texts : new.names.texts ≡ old.names.texts ++ instance_text d.modules.now (top_of d.walk.now) (met_of d i) ∷ []
  pub spellings : new.names.spellings ≡ old.names.spellings ++ instance_sdf d.modules.now (top_of d.walk.now) (met_of d i) ∷ []

-- the instances of cells among the first so many that the walk meets
abbrev pub mets_before : Design → ℕ → List Met
mets_before d n = filter (λ met. not (is_module d.modules.now (top_of d.walk.now) met)) (take n (walk_of d))

-- these instances are kept
pub record HoldInstances (d : Design) (mets : List Met) (kept : Instances) (cells : List NamedCells) : Type 0 where
  pub tables : AreInstanceTables kept
  pub count : length kept.rows.items ≡ length mets
  pub each : (i : ℕ) (met : Met) → slice_get mets i ≡ Some met
      → IsInstanceOf d.modules.now (top_of d.walk.now) cells met (kept_instance kept i)
