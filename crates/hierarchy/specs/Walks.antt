-- The walk through a design: all instances in the top module and below it, in the order of the file, depth first.
use Rattle.std.specs.Prelude.{ℕ, zero, suc, List, [], ◌∷◌, ◌++◌, filter, filter_map, not, Bool, Option, Some, None, if◌then◌else◌}
use Rattle.verilog_netlist.specs.NetModules.{NetModule, NetInstance, instance_at}
use Rattle.hierarchy.specs.Hierarchy.{lower_of, is_hierarchy, instance_count, module_on}

-- an instance as the walk meets it: the path of the module in which it stands, and its number there
pub record Met : Type 0 where
  pub path : List ℕ
  pub instance : ℕ

-- the lists of so many numbers from this one on, one after another
abbrev pub joined_from : {X : Type 0} → (ℕ → List X) → ℕ → ℕ → List X
joined_from lists from zero = []
joined_from lists from (suc count) = lists from ++ joined_from lists (suc from) count

-- modules stand in each other at most so deep, the top being 1
abbrev pub most_depth : ℕ
most_depth = 64

module _ (modules : List NetModule) where
  -- an instance, and then what is met below it, where it is of a module
  abbrev pub met_at : (List ℕ → ℕ → List Met) → List ℕ → ℕ → ℕ → List Met
  met_at below path m k = record { path = path; instance = k }
      ∷ (if is_hierarchy modules m k then below (k ∷ path) (lower_of modules m k) else [])

  -- what is met in a module at a path, and in the modules below it, so many levels deep
  unfoldable pub walk : ℕ → List ℕ → ℕ → List Met
  walk zero path m = []
  walk (suc levels) path m = joined_from (met_at (walk levels) path m) 0 (instance_count modules m)

  module _ (top : ℕ) where
    abbrev pub whole_walk : List Met
    whole_walk = walk most_depth [] top

    abbrev pub is_module : Met → Bool
    is_module met = is_hierarchy modules (module_on modules top met.path) met.instance

    -- the instance itself, with its name, cell and connections
    abbrev pub met_instance : Met → NetInstance
    met_instance met = instance_at modules (module_on modules top met.path) met.instance

    -- the path into an instance of a module
    abbrev pub entered : Met → Option (List ℕ)
    entered met = if is_module met then Some (met.instance ∷ met.path) else None

    -- the visited modules, by their paths: the top, and then each instance of a module
    abbrev pub visits : List (List ℕ)
    visits = [] ∷ filter_map entered whole_walk

    -- the instances of cells
    abbrev pub cells_met : List Met
    cells_met = filter (λ met. not (is_module met)) whole_walk
