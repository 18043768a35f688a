-- The nets of a flat design, by bits of names in visited modules.
use Rattle.std.specs.Prelude.{ℕ, Bool, true, false, if◌then◌else◌, List, [], ◌∷◌, length, find, flat_map, slice_get, is_none, Option, Some, None}
use Rattle.std.specs.Option.{option_and_then}
use Rattle.std.specs.Str.{bytes_eq}
use Rattle.verilog_netlist.specs.ModuleNames.{NetName}
use Rattle.verilog_netlist.specs.NetModules.{NetModule, NetConnection, module_at, name_at, instance_at, bits_in}
use Rattle.verilog_netlist.specs.Ranges.{whole_width}
use Rattle.verilog_netlist.specs.declared.net_names.Way.{Way}
use Rattle.verilog_netlist.specs.declared.net_names.Way.TheVariants as way
use Rattle.verilog_netlist.specs.declared.runs.Bit.{Bit}
use Rattle.verilog_netlist.specs.declared.runs.Bit.TheVariants.{Tied, Wire}
use Rattle.hierarchy.specs.Hierarchy.{module_on}
use Rattle.hierarchy.specs.Walks.{joined_from, visits}

-- a bit of a name in a visited module: the module's path, the number of the name, the place in its range from the left
pub record NetBit : Type 0 where
  pub path : List ℕ
  pub name : ℕ
  pub bit : ℕ

-- what a bit is on: a constant, or the net that has its name of this bit
pub data FlatBit : Type 0 where
  Constant : FlatBit
  OnNet : NetBit → FlatBit

-- a port, by the direction that is declared
abbrev pub is_port_way : Way → Bool
is_port_way way.Inner = false
is_port_way _ = true

abbrev pub is_port : NetName → Bool
is_port name = is_port_way name.way

-- bits, if there are any
abbrev pub some_bits : List Bit → Option (List Bit)
some_bits [] = None
some_bits (bit ∷ bits) = Some (bit ∷ bits)

-- the bits that connections join to a port, from the left; none where they do not name it, or join nothing to it
abbrev pub joined_to : List NetConnection → List ℕ → Option (List Bit)
joined_to connections port = option_and_then (λ connection. some_bits (bits_in connection.runs))
    (find (λ connection. bytes_eq port connection.port) connections)

-- the bit of this place; a place past the end cannot be, since widths are equal
abbrev pub carried : (ℕ → ℕ → FlatBit) → Option Bit → FlatBit
carried outside None = Constant
carried outside (Some Tied) = Constant
carried outside (Some (Wire name bit)) = outside name bit

-- what is joined decides; where nothing is, the bit is a net of its own
abbrev pub decided : (ℕ → ℕ → FlatBit) → NetBit → Option (List Bit) → FlatBit
decided outside self None = OnNet self
decided outside self (Some bits) = carried outside (slice_get bits self.bit)

module _ (modules : List NetModule) (top : ℕ) where
  abbrev pub names_on : List ℕ → List NetName
  names_on path = (module_at modules (module_on modules top path)).names

  abbrev pub name_on : List ℕ → ℕ → NetName
  name_on path name = name_at modules (module_on modules top path) name

  -- what the module around a visited module joins to a name of it; nothing is joined to the top, nor to a name that is no port
  abbrev pub joined_above : List ℕ → ℕ → Option (List Bit)
  joined_above [] name = None
  joined_above (k ∷ outer) name =
      if is_port (name_on (k ∷ outer) name)
      then joined_to (instance_at modules (module_on modules top outer) k).connections (name_on (k ∷ outer) name).text
      else None

  -- what a bit of a name is on, found outwards: the bit that the module around joins to it, and so on
  unfoldable pub flat_bit : List ℕ → ℕ → ℕ → FlatBit
  flat_bit [] name bit = OnNet (record { path = []; name = name; bit = bit })
  flat_bit (k ∷ outer) name bit =
      decided (flat_bit outer) (record { path = k ∷ outer; name = name; bit = bit }) (joined_above (k ∷ outer) name)

  abbrev pub bits_of_name : List ℕ → ℕ → List NetBit
  bits_of_name path name =
      joined_from (λ bit. record { path = path; name = name; bit = bit } ∷ []) 0 (whole_width (name_on path name).range)

  -- the nets that have their names of a visited module: the bits of its names, but for those to which the module around joins something
  abbrev pub nets_of_name : List ℕ → ℕ → List NetBit
  nets_of_name path name = if is_none (joined_above path name) then bits_of_name path name else []

  abbrev pub nets_of_visit : List ℕ → List NetBit
  nets_of_visit path = joined_from (nets_of_name path) 0 (length (names_on path))

  -- the nets of the design, numbered by visited module, then by name, then from the left
  abbrev pub nets : List NetBit
  nets = flat_map nets_of_visit (visits modules top)

  -- the bits of the ports of the top module, in the order of its header and from the left
  abbrev pub ports_of_name : ℕ → List NetBit
  ports_of_name name = if is_port (name_on [] name) then bits_of_name [] name else []

  abbrev pub top_ports : List NetBit
  top_ports = joined_from ports_of_name 0 (length (names_on []))
