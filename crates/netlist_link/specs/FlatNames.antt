-- The names of a flat design: the path of a net or of an instance, joined by `/`.
use Rattle.std.specs.Prelude.{ℕ, ◌+◌, ◌-◌, nat_lt, if◌then◌else◌, List, [], ◌∷◌, ◌++◌, decimal, Option, Some, None}
use Rattle.edge_io.specs.Bytes.{slash, left_bracket, right_bracket}
use Rattle.name_table.specs.SdfNames.{part}
use Rattle.verilog_netlist.specs.ModuleNames.{NetName}
use Rattle.verilog_netlist.specs.NetModules.{NetModule, instance_at}
use Rattle.verilog_netlist.specs.declared.entries.Range.{Range}
use Rattle.hierarchy.specs.Hierarchy.{module_on}
use Rattle.hierarchy.specs.Walks.{Met, met_instance}
use Rattle.netlist_link.specs.FlatBits.{NetBit, name_on}

-- the index of the bit at a place of a range from the left
abbrev pub index_at : Range → ℕ → ℕ
index_at range bit = if nat_lt range.left range.right then range.left + bit else range.left - bit

-- a vector's bit has its index behind the name
abbrev pub bit_suffix : Option Range → ℕ → List ℕ
bit_suffix None bit = []
bit_suffix (Some range) bit = left_bracket ∷ decimal (index_at range bit) ++ right_bracket ∷ []

module _ (modules : List NetModule) (top : ℕ) where
  -- the names of the instances of a path from the outermost on, each with `/` behind it
  unfoldable pub path_text : List ℕ → List ℕ
  path_text [] = []
  path_text (k ∷ outer) = path_text outer ++ (instance_at modules (module_on modules top outer) k).name ++ slash ∷ []

  -- the same as SDF spells it
  unfoldable pub path_sdf : List ℕ → List ℕ
  path_sdf [] = []
  path_sdf (k ∷ outer) = path_sdf outer ++ part (instance_at modules (module_on modules top outer) k).name ++ slash ∷ []

  abbrev pub net_name : NetBit → NetName
  net_name net = name_on modules top net.path net.name

  abbrev pub net_text : NetBit → List ℕ
  net_text net = path_text net.path ++ (net_name net).text ++ bit_suffix (net_name net).range net.bit

  abbrev pub net_sdf : NetBit → List ℕ
  net_sdf net = path_sdf net.path ++ part (net_name net).text ++ bit_suffix (net_name net).range net.bit

  abbrev pub instance_text : Met → List ℕ
  instance_text met = path_text met.path ++ (met_instance modules top met).name

  abbrev pub instance_sdf : Met → List ℕ
  instance_sdf met = path_sdf met.path ++ part (met_instance modules top met).name
