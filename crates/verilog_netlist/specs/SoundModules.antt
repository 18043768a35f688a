-- Modules of which no name and no range is at fault.
use Rattle.std.specs.Prelude.{◌≡◌, ◌≢◌, ℕ, ◌+◌, ◌<◌, ◌≤◌, List, [], length, get_or, Option, Some, None, ⊤, All}
use Rattle.verilog_netlist.specs.Ranges.{largest_bound, most_bits, width_of, whole_width}
use Rattle.verilog_netlist.specs.ModuleNames.{NetName, no_name, range_of}
use Rattle.verilog_netlist.specs.NetModules.{NetModule, NetConnection}
use Rattle.verilog_netlist.specs.declared.entries.Range.{Range}
use Rattle.verilog_netlist.specs.declared.net_names.Way.TheVariants.{Inner}
use Rattle.verilog_netlist.specs.declared.runs.Bit.{Bit}
use Rattle.verilog_netlist.specs.declared.runs.Bit.TheVariants.{Tied, Wire}

-- no two of so many texts are the same
abbrev pub Differ : ℕ → (ℕ → List ℕ) → Type 0
Differ n text = (i j : ℕ) → i < j → j < n → text i ≡ text j → ⊥

-- a bit of a constant, or so many bits of one of these names, this one and those to its right, within the name's range
abbrev pub AreWithin : List NetName → Bit → ℕ → Type 0
AreWithin names Tied count = ⊤
AreWithin names (Wire name bit) count = (name < length names) × (bit + count ≤ whole_width (range_of names name))

-- the port that a connection names has a byte
abbrev pub IsPortNamed : NetConnection → Type 0
IsPortNamed connection = connection.port ≢ []

-- each name of a module has a byte: its own, those of its nets and its instances, and those of the ports that these join
pub record HasNames (m : NetModule) : Type 0 where
  pub name : m.name ≢ []
  pub names : All (λ name. name.text ≢ []) m.names
  pub instances : All (λ instance. instance.name ≢ []) m.instances
  pub ports : All (λ instance. All IsPortNamed instance.connections) m.instances

-- a range within the limits, where there is one
abbrev pub IsWithinLimits : Option Range → Type 0
IsWithinLimits None = ⊤
IsWithinLimits (Some range) = (range.left ≤ largest_bound) × (range.right ≤ largest_bound) × (width_of range ≤ most_bits)

-- the range of each name of a module is within the limits
abbrev pub HasFewBitsEach : NetModule → Type 0
HasFewBitsEach m = All (λ name. IsWithinLimits name.range) m.names

-- the names of a module that are ports stand in front of the others
abbrev pub HasPortsFirst : NetModule → Type 0
HasPortsFirst m = (i j : ℕ) → i < j → j < length m.names → (get_or m.names j no_name).way ≢ Inner → (get_or m.names i no_name).way ≢ Inner
