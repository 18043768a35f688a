-- One pass over an order of modules, which gives each a number by those of its lower modules.
use Rattle.std.specs.Prelude.{◌≡◌, ℕ, suc, ◌+◌, ◌<◌, ◌≤◌, ◌⊎◌, List, length, map, get_or, min, sum, sum_by}
use Rattle.verilog_netlist.specs.NetModules.{NetModule, module_at}
use Rattle.hierarchy.specs.Hierarchy.{instance_count}
use Rattle.hierarchy.specs.Uses.{name_bits}
use Rattle.hierarchy.specs.Lowers.{lowers_at}
use Rattle.hierarchy.specs.declared.uses.Count.{Count}
use Rattle.hierarchy.specs.declared.uses.Count.TheVariants.{Depth, Instances, Names, Pins}

abbrev pub value_at : List ℕ → ℕ → ℕ
value_at values m = get_or values m 0

-- the numbers of a module's lower modules
abbrev pub below_of : List (List ℕ) → List ℕ → ℕ → List ℕ
below_of lowers values m = map (value_at values) (lowers_at lowers m)

-- so many modules of the order have their number by this rule
pub record IsPassed (lowers : List (List ℕ)) (order : List ℕ) (rule : ℕ → List ℕ → ℕ → Type 0) (values : List ℕ) (many : ℕ) : Type 0 where
  pub size : length values ≡ length lowers
  pub each : (p : ℕ) → p < many
      → rule (get_or order p 0) (below_of lowers values (get_or order p 0)) (value_at values (get_or order p 0))

-- the most of the first so many numbers, or 0
pub record IsMost (numbers : List ℕ) (many most : ℕ) : Type 0 where
  pub above : (j : ℕ) → j < many → get_or numbers j 0 ≤ most
  pub some : (most ≡ 0) ⊎ ((j : ℕ) × (j < many) × (get_or numbers j 0 ≡ most))

-- the depth of a module is one more than the most of its lower modules
pub record IsDepth (m : ℕ) (below : List ℕ) (depth : ℕ) : Type 0 where
  pub most : ℕ
  pub is_most : IsMost below (length below) most
  pub is : depth ≡ suc most

-- what a module has itself of what is counted
abbrev pub own_of : List NetModule → Count → ℕ → ℕ
own_of modules Depth m = 0
own_of modules Instances m = instance_count modules m
own_of modules Names m = name_bits modules m
own_of modules Pins m = sum_by (λ instance. length instance.connections) (module_at modules m).instances

-- a total is cut off past all limits
abbrev pub cap : ℕ
cap = 8388608

abbrev pub IsTotal : List NetModule → Count → ℕ → List ℕ → ℕ → Type 0
IsTotal modules count m below total = total ≡ min cap (own_of modules count m + sum below)
