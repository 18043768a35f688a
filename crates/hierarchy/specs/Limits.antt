-- A design against its limits.
use Rattle.std.specs.Prelude.{◌≡◌, ℕ, ◌<◌, ◌≤◌, List, length, ⊤}
use Rattle.verilog_netlist.specs.NetModules.{NetModule}
use Rattle.hierarchy.specs.Walks.{most_depth}
use Rattle.hierarchy.specs.Uses.{most_instances, most_name_bits, most_connections, instances_visited, bits_visited, connections_visited}
use Rattle.hierarchy.specs.Passes.{value_at, IsPassed, IsDepth}
use Rattle.hierarchy.specs.declared.uses.Count.{Count}
use Rattle.hierarchy.specs.declared.uses.Count.TheVariants.{Depth, Instances, Names, Pins}
use Rattle.hierarchy.specs.declared.uses.UseEnd.{UseEnd}
use Rattle.hierarchy.specs.declared.uses.UseEnd.TheVariants.{NoTop, Recursive, TooMany, OutOfMemory}

-- the modules of the order have depths, of which that of the top is within the limit
pub record IsShallow (lowers : List (List ℕ)) (order : List ℕ) (top : ℕ) : Type 0 where
  pub depths : List ℕ
  pub passed : IsPassed lowers order IsDepth depths (length order)
  pub few : value_at depths top ≤ most_depth

-- what a walk meets of what is counted
abbrev pub visited_of : List NetModule → ℕ → Count → ℕ
visited_of modules top Depth = 0
visited_of modules top Instances = instances_visited modules top
visited_of modules top Names = bits_visited modules top
visited_of modules top Pins = connections_visited modules top

-- the limit of what is counted
abbrev pub limit_of : Count → ℕ
limit_of Depth = most_depth
limit_of Instances = most_instances
limit_of Names = most_name_bits
limit_of Pins = most_connections

-- the limit of what is counted is passed
abbrev pub IsOver : List NetModule → ℕ → Count → ℕ → UseEnd → Type 0
IsOver modules top count most NoTop = ⊥
IsOver modules top count most (Recursive name) = ⊥
IsOver modules top count most (TooMany which) = (which ≡ count) × (most < visited_of modules top count)
IsOver modules top count most OutOfMemory = ⊤
