-- Why a design has no flat netlist.
use Rattle.std.specs.Prelude.{◌≡◌, ℕ, ◌<◌, ◌≤◌, Bool, true, false, ◌&&◌, ◌==◌, if◌then◌else◌, List, [], ◌∷◌, length, map, find, take, flat_map, slice_get, Option, Some, None}
use Rattle.std.specs.Str.{bytes_eq}
use Rattle.std.specs.List.{position_or_len}
use Rattle.name_table.specs.Names.{AreDistinct}
use Rattle.cell_models.specs.NamedSets.{NamedCells, set_names}
use Rattle.cell_models.specs.declared.cell.Direction.{Direction}
use Rattle.cell_models.specs.declared.cell.Direction.TheVariants as direction
use Rattle.cell_models.specs.declared.cell.Pin.{Pin}
use Rattle.verilog_netlist.specs.ModuleNames.{NetName}
use Rattle.verilog_netlist.specs.NetModules.{NetModule, NetConnection, module_at, bits_in}
use Rattle.verilog_netlist.specs.Ranges.{whole_width}
use Rattle.hierarchy.specs.Hierarchy.{module_on, lower_of}
use Rattle.hierarchy.specs.Walks.{Met, whole_walk, is_module, met_instance, cells_met}
use Rattle.netlist_link.specs.FlatBits.{is_port, nets}
use Rattle.netlist_link.specs.FlatNames.{net_text, instance_text}
use Rattle.netlist_link.specs.FlatPins.{pins_of}
use Rattle.netlist_link.specs.FlatNetlist.{FlatInstance, FlatPort, driving_ends, ends_on}
use Rattle.netlist_link.specs.Links.{AreInstances, ArePorts}
use Rattle.netlist_link.specs.declared.ends.LinkEnd.{LinkEnd}
use Rattle.netlist_link.specs.declared.ends.LinkEnd.TheVariants as refused

-- what a port of an instance is: how many bits it has, and whether a pin of this direction may be connected
pub record Joint : Type 0 where
  pub width : ℕ
  pub is_taken : Bool

abbrev pub port_joint : NetName → Joint
port_joint name = record { width = whole_width name.range; is_taken = true }

-- an input or an output
abbrev pub is_end : Direction → Bool
is_end direction.Inout = false
is_end direction.Internal = false
is_end _ = true

abbrev pub pin_joint : Pin → Joint
pin_joint pin = record { width = 1; is_taken = is_end pin.direction }

-- the fault of so many bits at a port: another width, and then a pin that is inout or internal; an empty connection has none
abbrev pub bits_faults : List ℕ → List ℕ → Joint → ℕ → List LinkEnd
bits_faults instance port joint bits =
    if bits == 0 then []
    else if bits == joint.width then (if joint.is_taken then [] else refused.InoutPin instance port ∷ [])
    else refused.Width instance port joint.width bits ∷ []

-- the fault of a connection to a port that is there or not
abbrev pub joint_faults : List ℕ → List ℕ → Option Joint → ℕ → List LinkEnd
joint_faults instance port None bits = refused.UnknownPort instance port ∷ []
joint_faults instance port (Some joint) bits = bits_faults instance port joint bits

abbrev pub joint_of_name : Option NetName → Option Joint
joint_of_name None = None
joint_of_name (Some name) = Some (port_joint name)

abbrev pub joint_of_pin : Option Pin → Option Joint
joint_of_pin None = None
joint_of_pin (Some pin) = Some (pin_joint pin)

-- the port of this name of a module, the pin of this name of a cell
abbrev pub port_named : NetModule → List ℕ → Option NetName
port_named lower port = find (λ name. is_port name && bytes_eq port name.text) lower.names

abbrev pub pin_named : List Pin → List ℕ → Option Pin
pin_named pins port = find (λ pin. bytes_eq port pin.name) pins

-- a text that an earlier one is the same as, and no earlier one is so
pub record IsFirstClash (texts : List (List ℕ)) (text : List ℕ) : Type 0 where
  pub place : ℕ
  pub earlier : ℕ
  pub before : earlier < place
  pub here : slice_get texts place ≡ Some text
  pub same : slice_get texts earlier ≡ Some text
  pub first : AreDistinct (take place texts)

module _ (modules : List NetModule) (top : ℕ) (cells : List NamedCells) where
  -- the pins of the cell of an instance
  abbrev pub pins_met : Met → List Pin
  pins_met met = pins_of cells (position_or_len (bytes_eq (met_instance modules top met).cell) (set_names cells))

  -- the port or the pin that a connection of an instance names
  abbrev pub joint_of : Met → List ℕ → Option Joint
  joint_of met port =
      if is_module modules top met
      then joint_of_name (port_named (module_at modules (lower_of modules (module_on modules top met.path) met.instance)) port)
      else joint_of_pin (pin_named (pins_met met) port)

  abbrev pub connection_faults : Met → NetConnection → List LinkEnd
  connection_faults met connection = joint_faults (instance_text modules top met) connection.port (joint_of met connection.port)
      (length (bits_in connection.runs))

  abbrev pub instance_faults : Met → List LinkEnd
  instance_faults met = flat_map (connection_faults met) (met_instance modules top met).connections

  -- the faults of connections, along the walk and as written
  abbrev pub all_faults : List LinkEnd
  all_faults = flat_map instance_faults (whole_walk modules top)

  abbrev pub net_texts : List (List ℕ)
  net_texts = map (net_text modules top) (nets modules top)

  abbrev pub instance_texts : List (List ℕ)
  instance_texts = map (instance_text modules top) (cells_met modules top)

  -- the first net with two drivers or more
  pub record IsDoublyDriven (n : ℕ) : Type 0 where
    pub instances : List FlatInstance
    pub ports : List FlatPort
    pub are_instances : AreInstances modules top cells instances
    pub are_ports : ArePorts modules top cells ports
    pub several : 2 ≤ length (ends_on n (driving_ends cells ports instances))
    pub earlier : (m : ℕ) → m < n → length (ends_on m (driving_ends cells ports instances)) ≤ 1

  -- The causes, in the order in which they are asked. Want of memory alone may come at any time.
  pub data IsLinkEnd : LinkEnd → Type 0 where
    bad_connection : (first : LinkEnd) (later : List LinkEnd) → all_faults ≡ first ∷ later → IsLinkEnd first
    nets_clash : (text : List ℕ) → all_faults ≡ [] → IsFirstClash net_texts text → IsLinkEnd (refused.NameClash text)
    instances_clash : (text : List ℕ) → all_faults ≡ [] → AreDistinct net_texts → IsFirstClash instance_texts text
        → IsLinkEnd (refused.NameClash text)
    several_drivers : (n : ℕ) (text : List ℕ) → all_faults ≡ [] → AreDistinct net_texts → AreDistinct instance_texts → IsDoublyDriven n
        → slice_get net_texts n ≡ Some text → IsLinkEnd (refused.SeveralDrivers text)
    no_memory : IsLinkEnd refused.OutOfMemory
