-- The hierarchy of a netlist (IEEE 1364-2005, module instances): which instances are of modules, and which module stands at the end of
-- a path of instances.
use Rattle.std.specs.Prelude.{ℕ, Bool, nat_lt, ◌<◌, List, [], ◌∷◌, length, ⊤}
use Rattle.std.specs.List.{position_or_len}
use Rattle.std.specs.Str.{bytes_eq}
use Rattle.verilog_netlist.specs.NetModules.{NetModule, module_at, instance_at}

module _ (modules : List NetModule) where
  -- the number of the module of this name; so many as there are modules where the file has none of it
  abbrev pub module_named : List ℕ → ℕ
  module_named name = position_or_len (λ m. bytes_eq name m.name) modules

  -- the module that an instance is of
  abbrev pub lower_of : ℕ → ℕ → ℕ
  lower_of m k = module_named (instance_at modules m k).cell

  -- an instance of a module of the same file is hierarchy, and every other is of a cell
  abbrev pub is_hierarchy : ℕ → ℕ → Bool
  is_hierarchy m k = nat_lt (lower_of m k) (length modules)

  abbrev pub instance_count : ℕ → ℕ
  instance_count m = length (module_at modules m).instances

  module _ (top : ℕ) where
    -- A path goes from an instance outwards: the number of the instance in its module, then that of the instance of this module in
    -- the module around it, and so on to the top. The module at the inner end of a path:
    abbrev pub module_on : List ℕ → ℕ
    module_on [] = top
    module_on (k ∷ outer) = lower_of (module_on outer) k

    -- the module has this instance, and it is of a module
    abbrev pub HasLower : ℕ → ℕ → Type 0
    HasLower m k = (k < instance_count m) × (lower_of m k < length modules)

    -- each instance of a path stands in the module around it, and is of a module
    abbrev pub IsPath : List ℕ → Type 0
    IsPath [] = ⊤
    IsPath (k ∷ outer) = IsPath outer × HasLower (module_on outer) k
