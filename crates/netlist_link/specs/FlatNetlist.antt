-- A flat netlist: instances of cells, nets with their drivers and sinks, and the ports of the design.
use Rattle.std.specs.Prelude.{ℕ, suc, Bool, true, false, not, ◌==◌, if◌then◌else◌, List, [], ◌∷◌, ◌++◌, map, filter, get_or, Option, Some, None}
use Rattle.cell_models.specs.NamedSets.{NamedCells}
use Rattle.cell_models.specs.declared.cell.Direction.{Direction}
use Rattle.cell_models.specs.declared.cell.Direction.TheVariants as direction
use Rattle.cell_models.specs.declared.cell.Pin.{Pin}
use Rattle.netlist_link.specs.FlatPins.{pins_of}
use Rattle.netlist_link.specs.declared.ends.End.{End}
use Rattle.netlist_link.specs.declared.ends.End.TheVariants as end

-- an instance of a cell: its path, as text and as SDF spells it; the place of its cell; and the net of each pin, by the pins' numbers
pub record FlatInstance : Type 0 where
  pub text : List ℕ
  pub sdf : List ℕ
  pub cell : ℕ
  pub nets : List (Option ℕ)

-- a bit of a port of the design: its name, as text and as SDF spells it; its net; and whether it is an input
pub record FlatPort : Type 0 where
  pub text : List ℕ
  pub sdf : List ℕ
  pub net : ℕ
  pub is_input : Bool

-- a net: its name, what drives it, and its sinks
pub record FlatNet : Type 0 where
  pub text : List ℕ
  pub driver : Option End
  pub sinks : List End

pub record FlatNetlist : Type 0 where
  pub instances : List FlatInstance
  pub nets : List FlatNet
  pub ports : List FlatPort

-- the instance, the net and the port of a number
abbrev pub no_instance : FlatInstance
no_instance = record { text = []; sdf = []; cell = 0; nets = [] }

abbrev pub no_net : FlatNet
no_net = record { text = []; driver = None; sinks = [] }

abbrev pub no_port : FlatPort
no_port = record { text = []; sdf = []; net = 0; is_input = false }

abbrev pub instance_at : FlatNetlist → ℕ → FlatInstance
instance_at netlist i = get_or netlist.instances i no_instance

abbrev pub net_at : FlatNetlist → ℕ → FlatNet
net_at netlist n = get_or netlist.nets n no_net

abbrev pub port_at : FlatNetlist → ℕ → FlatPort
port_at netlist p = get_or netlist.ports p no_port

-- an end on the net of a number
pub record EndOn : Type 0 where
  pub net : ℕ
  pub at : End

abbrev pub is_output_pin : Direction → Bool
is_output_pin direction.Output = true
is_output_pin _ = false

abbrev pub is_input_pin : Direction → Bool
is_input_pin direction.Input = true
is_input_pin _ = false

-- the bits of ports on their nets, the inputs or the outputs, numbered from this number on
abbrev pub port_ends : Bool → ℕ → List FlatPort → List EndOn
port_ends inputs from [] = []
port_ends inputs from (port ∷ ports) =
    if (if inputs then port.is_input else not port.is_input)
    then record { net = port.net; at = end.Port from } ∷ port_ends inputs (suc from) ports
    else port_ends inputs (suc from) ports

-- a pin on its net, if it is on one
abbrev pub end_at : ℕ → ℕ → Option ℕ → List EndOn
end_at instance pin None = []
end_at instance pin (Some net) = record { net = net; at = end.Pin instance pin } ∷ []

-- the pins of an instance whose directions pass a test, on their nets, from this number on
abbrev pub pin_ends : (Direction → Bool) → ℕ → ℕ → List Pin → List (Option ℕ) → List EndOn
pin_ends test instance from [] nets = []
pin_ends test instance from (pin ∷ pins) [] = []
pin_ends test instance from (pin ∷ pins) (net ∷ nets) =
    if test pin.direction
    then end_at instance from net ++ pin_ends test instance (suc from) pins nets
    else pin_ends test instance (suc from) pins nets

module _ (cells : List NamedCells) where
  -- the same of instances, from this number on
  abbrev pub instance_ends : (Direction → Bool) → ℕ → List FlatInstance → List EndOn
  instance_ends test from [] = []
  instance_ends test from (instance ∷ instances) =
      pin_ends test from 0 (pins_of cells instance.cell) instance.nets ++ instance_ends test (suc from) instances

  -- what drives: input ports of the design, and output pins
  abbrev pub driving_ends : List FlatPort → List FlatInstance → List EndOn
  driving_ends ports instances = port_ends true 0 ports ++ instance_ends is_output_pin 0 instances

  -- what is driven: input pins by instance and number, and then output ports of the design
  abbrev pub driven_ends : List FlatPort → List FlatInstance → List EndOn
  driven_ends ports instances = instance_ends is_input_pin 0 instances ++ port_ends false 0 ports

-- those on one net, in their order
abbrev pub ends_on : ℕ → List EndOn → List End
ends_on net ends = map (λ end. end.at) (filter (λ end. end.net == net) ends)
