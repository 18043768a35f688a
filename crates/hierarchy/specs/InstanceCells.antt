-- What the instances of a file are of: each name of a cell or a module has a number, which the instances of it have.
use Rattle.std.specs.Prelude.{◌≡◌, ℕ, ◌<◌, ◌≤◌, Bool, true, false, List, [], ◌++◌, length, get_or, slice_get, Contains, Option, Some, None}
use Rattle.verilog_netlist.specs.NetModules.{NetModule, instance_at}
use Rattle.hierarchy.specs.Hierarchy.{module_named, instance_count}

-- the names, for each module the numbers of the names that its instances are of, and for each name the module of it
pub record CellTable : Type 0 where
  pub names : List (List ℕ)
  pub rows : List (List ℕ)
  pub lowers : List (Option ℕ)

-- the number of the name that an instance is of
abbrev pub number_at : List (List ℕ) → ℕ → ℕ → ℕ
number_at rows m k = get_or (get_or rows m []) k 0

-- names came behind those of before
pub record Grows (old new : List (List ℕ)) : Type 0 where
  pub more : List (List ℕ)
  pub are : new ≡ old ++ more

-- a name is marked only where it is among these
pub record AreMarked (names : List (List ℕ)) (marks : List Bool) (used : List (List ℕ)) : Type 0 where
  pub count : length marks ≡ length names
  pub each : (n : ℕ) (name : List ℕ) → slice_get names n ≡ Some name → get_or marks n false ≡ true → Contains used name

module _ (modules : List NetModule) where
  -- the module of this name, where the file has one
  abbrev pub IsLowerNamed : List ℕ → Option ℕ → Type 0
  IsLowerNamed name None = length modules ≤ module_named modules name
  IsLowerNamed name (Some m) = (m ≡ module_named modules name) × (m < length modules)

  -- the first so many instances of a module have the numbers of the names that they are of
  pub record HasNumbers (names : List (List ℕ)) (m many : ℕ) (row : List ℕ) : Type 0 where
    pub count : length row ≡ many
    pub each : (k : ℕ) → k < many → slice_get names (get_or row k 0) ≡ Some (instance_at modules m k).cell

  -- so have all instances of the first so many modules
  pub record HaveRows (names : List (List ℕ)) (many : ℕ) (rows : List (List ℕ)) : Type 0 where
    pub count : length rows ≡ many
    pub each : (m : ℕ) → m < many → HasNumbers names m (instance_count modules m) (get_or rows m [])

  -- the modules of the first so many names
  pub record HaveLowers (names : List (List ℕ)) (many : ℕ) (lowers : List (Option ℕ)) : Type 0 where
    pub count : length lowers ≡ many
    pub each : (n : ℕ) (name : List ℕ) → n < many → slice_get names n ≡ Some name → IsLowerNamed name (get_or lowers n None)

  pub record AreInstanceCells (table : CellTable) : Type 0 where
    pub rows : HaveRows table.names (length modules) table.rows
    pub lowers : HaveLowers table.names (length table.names) table.lowers

-- an instance of a file whose table this is
pub record HasInstance (table : CellTable) (m k : ℕ) : Type 0 where
  pub modules : List NetModule
  pub are : AreInstanceCells modules table
  pub within : m < length modules
  pub place : k < instance_count modules m
