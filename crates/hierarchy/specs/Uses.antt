-- Whether a design can be walked through, and the cells that it uses.
use Rattle.std.specs.Prelude.{◌≡◌, ℕ, ◌<◌, ◌≤◌, ◌^◌, List, [], ◌++◌, length, map, sum_by}
use Rattle.std.specs.Str.{bytes_eq}
use Rattle.indexmap.specs.IndexSet.{insert_all}
use Rattle.verilog_netlist.specs.NetModules.{NetModule, module_at}
use Rattle.verilog_netlist.specs.Ranges.{whole_width}
use Rattle.hierarchy.specs.Hierarchy.{module_on, IsPath}
use Rattle.hierarchy.specs.Walks.{most_depth, whole_walk, met_instance, visits, cells_met}
use Rattle.hierarchy.specs.declared.uses.UseEnd.{UseEnd}
use Rattle.hierarchy.specs.declared.uses.UseEnd.TheVariants.{NoTop, Recursive, TooMany, OutOfMemory}
use Rattle.hierarchy.specs.declared.uses.Count.TheVariants.{Depth, Instances, Names, Pins}

-- the most instances that are visited, bits of names in visited modules, and connections of visited instances
abbrev pub most_instances : ℕ
most_instances = 2 ^ 20

abbrev pub most_name_bits : ℕ
most_name_bits = 2 ^ 22

abbrev pub most_connections : ℕ
most_connections = 2 ^ 22

module _ (modules : List NetModule) where
  -- the bits of all names of a module, ports included
  abbrev pub name_bits : ℕ → ℕ
  name_bits m = sum_by (λ name. whole_width name.range) (module_at modules m).names

  -- the file has a module of this name
  pub record IsTop (name : List ℕ) (top : ℕ) : Type 0 where
    pub within : top < length modules
    pub named : (module_at modules top).name ≡ name

  -- a module that the walk reaches contains itself: a path leads into it, and a longer one into it again
  pub record ContainsItself (top : ℕ) (m : ℕ) : Type 0 where
    pub outer : List ℕ
    pub inner : List ℕ
    pub some : 0 < length inner
    pub path : IsPath modules top (inner ++ outer)
    pub first : module_on modules top outer ≡ m
    pub again : module_on modules top (inner ++ outer) ≡ m

  module _ (top : ℕ) where
    -- modules stand in each other deeper than the limit
    pub record IsTooDeep : Type 0 where
      pub path : List ℕ
      pub is_path : IsPath modules top path
      pub deep : most_depth ≤ length path

    abbrev pub instances_visited : ℕ
    instances_visited = length (whole_walk modules top)

    abbrev pub bits_visited : ℕ
    bits_visited = sum_by (λ path. name_bits (module_on modules top path)) (visits modules top)

    abbrev pub connections_visited : ℕ
    connections_visited = sum_by (λ met. length (met_instance modules top met).connections) (whole_walk modules top)

    -- no module contains itself, and no limit is passed
    pub record IsWalkable : Type 0 where
      pub finite : (m : ℕ) → ¬ ContainsItself top m
      pub shallow : ¬ IsTooDeep
      pub instances : instances_visited ≤ most_instances
      pub bits : bits_visited ≤ most_name_bits
      pub connections : connections_visited ≤ most_connections

    -- the names of the cells, in the order in which the walk first meets them
    abbrev pub cells_used : List (List ℕ)
    cells_used = insert_all bytes_eq [] (map (λ met. (met_instance modules top met).cell) (cells_met modules top))

  -- Why a design cannot be walked through: the limits are asked in the order depth, instances, names, pins, after recursion. Of several
  -- modules that contain themselves one is named. Want of memory alone may come at any time.
  pub data IsUseEnd (name : List ℕ) : UseEnd → Type 0 where
    no_top : ((m : ℕ) → m < length modules → (module_at modules m).name ≡ name → ⊥) → IsUseEnd name NoTop
    recursive : (top m : ℕ) → IsTop name top → ContainsItself top m → IsUseEnd name (Recursive (module_at modules m).name)
    too_deep : (top : ℕ) → IsTop name top → ((m : ℕ) → ¬ ContainsItself top m) → IsTooDeep top → IsUseEnd name (TooMany Depth)
    instances : (top : ℕ) → IsTop name top → ((m : ℕ) → ¬ ContainsItself top m) → ¬ IsTooDeep top
        → most_instances < instances_visited top → IsUseEnd name (TooMany Instances)
    names : (top : ℕ) → IsTop name top → ((m : ℕ) → ¬ ContainsItself top m) → ¬ IsTooDeep top
        → instances_visited top ≤ most_instances → most_name_bits < bits_visited top → IsUseEnd name (TooMany Names)
    pins : (top : ℕ) → IsTop name top → ((m : ℕ) → ¬ ContainsItself top m) → ¬ IsTooDeep top
        → instances_visited top ≤ most_instances → bits_visited top ≤ most_name_bits → most_connections < connections_visited top
        → IsUseEnd name (TooMany Pins)
    no_memory : IsUseEnd name OutOfMemory

  -- the cells that the module of this name uses
  pub record AreCellsUsed (name : List ℕ) (cells : List (List ℕ)) : Type 0 where
    pub top : ℕ
    pub is_top : IsTop name top
    pub walkable : IsWalkable top
    pub are : cells ≡ cells_used top
