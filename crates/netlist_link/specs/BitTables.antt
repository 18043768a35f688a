-- The nets of a flat design as they are kept: what each bit of each name in each visited module is on.
use Rattle.std.specs.Prelude.{◌≡◌, ℕ, ◌<◌, List, length, map, slice_get, Some, ⊤}
use Rattle.verilog_netlist.specs.Ranges.{whole_width}
use Rattle.verilog_netlist.specs.declared.runs.Bit.{Bit}
use Rattle.verilog_netlist.specs.declared.runs.Bit.TheVariants.{Tied, Wire}
use Rattle.hierarchy.specs.Hierarchy.{module_on}
use Rattle.hierarchy.specs.Walks.{visits}
use Rattle.hierarchy.specs.WalkTables.{path_at}
use Rattle.netlist_link.specs.FlatBits.{NetBit, nets, names_on, name_on}
use Rattle.netlist_link.specs.PathTables.{top_of}
use Rattle.netlist_link.specs.declared.checking.Design.{Design}
use Rattle.netlist_link.specs.declared.flat_bits.NetPlace.{NetPlace}

-- the path of a visited module
abbrev pub path_of : Design → ℕ → List ℕ
path_of d visit = path_at d.modules.now (top_of d.walk.now) visit

abbrev pub module_of : Design → ℕ → ℕ
module_of d visit = module_on d.modules.now (top_of d.walk.now) (path_of d visit)

abbrev pub nets_of : Design → List NetBit
nets_of d = nets d.modules.now (top_of d.walk.now)

-- a bit of a name in a visited module
pub record IsBitOf (d : Design) (visit name bit : ℕ) : Type 0 where
  pub visit_below : visit < length (visits d.modules.now (top_of d.walk.now))
  pub name_below : name < length (names_on d.modules.now (top_of d.walk.now) (path_of d visit))
  pub bit_below : bit < whole_width (name_on d.modules.now (top_of d.walk.now) (path_of d visit) name).range

-- what a connection in a visited module joins: a constant, or a bit of a name there
abbrev pub IsBitIn : Design → ℕ → Bit → Type 0
IsBitIn d visit Tied = ⊤
IsBitIn d visit (Wire name bit) = IsBitOf d visit name bit

-- the net of a bit by which it is named
abbrev pub net_bit_of : Design → NetPlace → NetBit
net_bit_of d place = record { path = path_of d place.visit; name = place.name; bit = place.bit }

-- the nets are kept, each by the bit that it has its name of
pub record AreNetPlaces (d : Design) (places : List NetPlace) : Type 0 where
  pub nets_are : map (net_bit_of d) places ≡ nets_of d
  pub each : (n : ℕ) (place : NetPlace) → slice_get places n ≡ Some place → IsBitOf d place.visit place.name place.bit
