-- A design as it is looked at: its modules, its walk, its cells, and the tables of their names.
use Rattle.std.specs.Prelude.{slice_index, ◌++◌, map, take, flat_map, ◌≡◌, ℕ, ◌<◌, List, [], ◌∷◌, length, slice_get, Some, get_or, Option, None, false, Contains, ◌&&◌, Bool}
use Rattle.std.specs.Str.{bytes_eq}
use Rattle.cell_models.specs.NamedSets.{NamedCells, set_names}
use Rattle.verilog_netlist.specs.ModuleNames.{NetName}
use Rattle.verilog_netlist.specs.NetModules.{NetModule, NetConnection, module_at}
use Rattle.hierarchy.specs.Walks.{Met, whole_walk, met_instance, is_module}
use Rattle.hierarchy.specs.WalkTables.{no_met}
use Rattle.hierarchy.specs.InstanceCells.{AreInstanceCells}
use Rattle.netlist_link.specs.FlatBits.{is_port}
use Rattle.netlist_link.specs.LinkEnds.{Joint, joint_of, connection_faults, instance_faults}
use Rattle.netlist_link.specs.PathTables.{IsWalk, top_of, ArePaths}
use Rattle.netlist_link.specs.PortTables.{ArePortNumbers}
use Rattle.netlist_link.specs.CellPlaces.{AreCellPlaces}
use Rattle.netlist_link.specs.JointTables.{AreAllPins, AreOfCells, pin_names, joint_number, numbers_of}
use Rattle.netlist_link.specs.FlatPins.{pins_of}
use Rattle.name_table.specs.Names.{AreDistinct}
use Rattle.std.specs.List.{position_or_len}
use Rattle.netlist_link.specs.declared.ends.LinkEnd.{LinkEnd}
use Rattle.netlist_link.specs.declared.ends.LinkEnd.TheVariants as refused
use Rattle.netlist_link.specs.declared.checking.Design.{Design}
use Rattle.netlist_link.specs.declared.checking.KeptJoint.{KeptJoint}
use Rattle.netlist_link.specs.declared.port_numbers.PortNumbers.{PortNumbers}

-- the ports of the first so many modules are found by their names
pub record HoldAllPorts (modules : List NetModule) (many : ℕ) (kept : List PortNumbers) : Type 0 where
  pub count : length kept ≡ many
  pub each : (m : ℕ) (ports : PortNumbers) → slice_get kept m ≡ Some ports → ArePortNumbers (module_at modules m).names ports

abbrev pub AreAllPorts : List NetModule → List PortNumbers → Type 0
AreAllPorts modules = HoldAllPorts modules (length modules)

-- the instances that the walk meets, by their numbers
abbrev pub met_of : Design → ℕ → Met
met_of d i = get_or (whole_walk d.modules.now (top_of d.walk.now)) i no_met

pub record IsDesign (cells : List NamedCells) (d : Design) : Type 0 where
  pub walk : IsWalk d.modules.now d.walk.now
  pub paths : ArePaths d.modules.now (top_of d.walk.now) d.paths.now
  pub instance_cells : AreInstanceCells d.modules.now d.cells.now
  pub places : AreCellPlaces (set_names cells) d.cells.now.names d.cell_places.now
  pub ports : AreAllPorts d.modules.now d.ports.now
  pub pins : AreAllPins cells (length cells) d.pins.now
  pub known : (i : ℕ) → i < length d.walk.now.met → is_module d.modules.now (top_of d.walk.now) (met_of d i) ≡ false
      → Contains (set_names cells) (met_instance d.modules.now (top_of d.walk.now) (met_of d i)).cell

-- the same without the cells
pub record IsSound (d : Design) : Type 0 where
  pub walk : IsWalk d.modules.now d.walk.now
  pub ports : AreAllPorts d.modules.now d.ports.now
  pub pins : AreOfCells d.pins.now

-- the place is that of the cell of an instance that is met
abbrev pub IsCellPlace : List NamedCells → Design → ℕ → ℕ → Type 0
IsCellPlace cells d i c =
    c ≡ position_or_len (bytes_eq (met_instance d.modules.now (top_of d.walk.now) (met_of d i)).cell) (set_names cells)

-- the names of the pins of each cell differ
abbrev pub HaveDistinctPins : List NamedCells → Type 0
HaveDistinctPins cells = (c : ℕ) → AreDistinct (pin_names (pins_of cells c))

-- the joint of a connection of an instance that is met
abbrev pub joint_here : List NamedCells → Design → ℕ → List ℕ → Option Joint
joint_here cells d i port = joint_of d.modules.now (top_of d.walk.now) cells (met_of d i) port

abbrev pub number_here : List NamedCells → Design → ℕ → List ℕ → ℕ
number_here cells d i port = joint_number d.modules.now (top_of d.walk.now) cells (met_of d i) port

-- the width of a port or a pin, and whether it may be connected
abbrev pub joint_in : Option KeptJoint → Option Joint
joint_in None = None
joint_in (Some kept) = Some (record { width = kept.width; is_taken = kept.is_taken })

abbrev pub has_port_name : List ℕ → NetName → Bool
has_port_name port name = is_port name && bytes_eq port name.text

-- the first of these faults, or want of memory
pub data IsFirstOf (faults : List LinkEnd) : LinkEnd → Type 0 where
  first_is : (first : LinkEnd) (later : List LinkEnd) → faults ≡ first ∷ later → IsFirstOf faults first
  no_memory_is : IsFirstOf faults refused.OutOfMemory

-- a connection can be made, to the port or pin of this number
pub record IsMade (faults : List LinkEnd) (joint : Option KeptJoint) (number : ℕ) : Type 0 where
  pub faultless : faults ≡ []
  pub kept : KeptJoint
  pub is : joint ≡ Some kept
  pub number_is : number ≡ kept.number

-- what holds of all cells of which the design keeps the pins, where the place is that of the cell of an instance that is met
abbrev pub OfCells : Design → ℕ → ℕ → (List NamedCells → Type 0) → Type 0
OfCells d i cell holds = (cells : List NamedCells) → AreAllPins cells (length cells) d.pins.now → HaveDistinctPins cells
    → (is_module d.modules.now (top_of d.walk.now) (met_of d i) ≡ false → IsCellPlace cells d i cell) → holds cells

abbrev pub connections_of : Design → ℕ → List NetConnection
connections_of d i = (met_instance d.modules.now (top_of d.walk.now) (met_of d i)).connections

-- so many connections of an instance that is met have no fault, and their numbers stand behind those before
pub record AreJoined (d : Design) (i many : ℕ) (old new : List ℕ) (cells : List NamedCells) : Type 0 where
  pub faultless : flat_map (connection_faults d.modules.now (top_of d.walk.now) cells (met_of d i)) (take many (connections_of d i)) ≡ []
  pub numbers : new ≡ old ++ map (λ connection. number_here cells d i connection.port) (take many (connections_of d i))

-- all of them
pub record IsJoinedInstance (d : Design) (i : ℕ) (old new : List ℕ) (cells : List NamedCells) : Type 0 where
  pub faultless : instance_faults d.modules.now (top_of d.walk.now) cells (met_of d i) ≡ []
  pub numbers : new ≡ old ++ numbers_of d.modules.now (top_of d.walk.now) cells (met_of d i)

-- the tables are those of a design over some cells
pub record HasDesign (d : Design) : Type 0 where
  pub cells : List NamedCells
  pub is : IsDesign cells d
  pub distinct : HaveDistinctPins cells

-- the instance that is met is of a cell
abbrev pub IsOfCell : Design → ℕ → Type 0
IsOfCell d i = is_module d.modules.now (top_of d.walk.now) (met_of d i) ≡ false

abbrev pub walk_of : Design → List Met
walk_of d = whole_walk d.modules.now (top_of d.walk.now)

abbrev pub numbers_in : List NamedCells → Design → Met → List ℕ
numbers_in cells d = numbers_of d.modules.now (top_of d.walk.now) cells

abbrev pub faults_in : List NamedCells → Design → Met → List LinkEnd
faults_in cells d = instance_faults d.modules.now (top_of d.walk.now) cells

-- The connections of the first so many instances have no fault. The numbers of the ports and pins to which they lead stand one instance
-- after another, and each instance of a cell has the place of its cell.
pub record HoldsJoints (d : Design) (many : ℕ) (starts numbers places : List ℕ) (cells : List NamedCells) : Type 0 where
  pub faultless : flat_map (faults_in cells d) (take many (walk_of d)) ≡ []
  pub numbers_are : numbers ≡ flat_map (numbers_in cells d) (take many (walk_of d))
  pub starts_len : length starts ≡ many
  pub starts_are : (i : ℕ) → i < many → slice_index starts i ≡ length (flat_map (numbers_in cells d) (take i (walk_of d)))
  pub places_len : length places ≡ many
  pub places_are : (i : ℕ) → i < many → IsOfCell d i → IsCellPlace cells d i (slice_index places i)

-- what holds of all cells over which this is a design
abbrev pub OverCells : Design → (List NamedCells → Type 0) → Type 0
OverCells d holds = (cells : List NamedCells) → IsDesign cells d → HaveDistinctPins cells → holds cells
