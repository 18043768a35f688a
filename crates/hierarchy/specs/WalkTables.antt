-- What is kept of a walk: the visited modules and the instances that are met, each named by its place.
use Rattle.std.specs.Prelude.{◌≡◌, ℕ, ◌<◌, true, false, List, [], ◌∷◌, length, get_or, slice_get, Option, Some, None}
use Rattle.verilog_netlist.specs.NetModules.{NetModule}
use Rattle.hierarchy.specs.Hierarchy.{module_on}
use Rattle.hierarchy.specs.Walks.{Met, whole_walk, is_module, visits}
use Rattle.hierarchy.specs.declared.walking.Visit.{Visit}
use Rattle.hierarchy.specs.declared.walking.MetInstance.{MetInstance}

-- the tables of a walk
pub record WalkTables : Type 0 where
  pub visits : List Visit
  pub met : List MetInstance

abbrev pub no_met : Met
no_met = record { path = []; instance = 0 }

module _ (modules : List NetModule) (top : ℕ) where
  -- the path of a visited module
  abbrev pub path_at : ℕ → List ℕ
  path_at v = get_or (visits modules top) v []

  -- a visited module: at the path of the one around it, by this instance of that one; the first is the top
  pub record IsVisit (v : ℕ) (visit : Visit) : Type 0 where
    pub here : visit.module ≡ module_on modules top (path_at v)
    pub around : 0 < v → (visit.parent < v) × (path_at v ≡ visit.instance ∷ path_at visit.parent)

  -- the number of the visit of an instance of a module, and none of an instance of a cell
  abbrev pub IsLowerVisit : Met → Option ℕ → Type 0
  IsLowerVisit met (Some v) = (v < length (visits modules top)) × (path_at v ≡ met.instance ∷ met.path) × (is_module modules top met ≡ true)
  IsLowerVisit met None = is_module modules top met ≡ false

  -- an instance that is met
  pub record IsMet (met : Met) (kept : MetInstance) : Type 0 where
    pub visit : kept.visit < length (visits modules top)
    pub path : path_at kept.visit ≡ met.path
    pub instance : kept.instance ≡ met.instance
    pub lower : IsLowerVisit met kept.lower

  -- the tables are those of the walk
  pub record AreTablesOfWalk (tables : WalkTables) : Type 0 where
    pub visits_count : length tables.visits ≡ length (visits modules top)
    pub met_count : length tables.met ≡ length (whole_walk modules top)
    pub each_visit : (v : ℕ) (visit : Visit) → slice_get tables.visits v ≡ Some visit → IsVisit v visit
    pub each_met : (i : ℕ) (kept : MetInstance) → slice_get tables.met i ≡ Some kept → IsMet (get_or (whole_walk modules top) i no_met) kept
