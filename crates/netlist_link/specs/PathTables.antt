-- The paths of visited modules as they are kept.
use Rattle.std.specs.Prelude.{◌≡◌, ℕ, List, [], map, take, get_or}
use Rattle.verilog_netlist.specs.NetModules.{NetModule, instance_at}
use Rattle.hierarchy.specs.Walks.{visits}
use Rattle.hierarchy.specs.WalkTables.{WalkTables, AreTablesOfWalk}
use Rattle.hierarchy.specs.declared.walking.Visit.{Visit}
use Rattle.netlist_link.specs.FlatNames.{path_text, path_sdf}
use Rattle.netlist_link.specs.declared.flat_names.Paths.{Paths}

abbrev pub no_visit : Visit
no_visit = record { parent = 0; instance = 0; «module» = 0 }

-- a visited module, and the one around it
abbrev pub visit_at : WalkTables → ℕ → Visit
visit_at tables v = get_or tables.visits v no_visit

abbrev pub around_at : WalkTables → ℕ → Visit
around_at tables v = visit_at tables (visit_at tables v).parent

-- the name of the instance that a visited module is
abbrev pub name_at_visit : List NetModule → WalkTables → ℕ → List ℕ
name_at_visit modules tables v = (instance_at modules (around_at tables v).«module» (visit_at tables v).instance).name

-- the module of the first visit
abbrev pub top_of : WalkTables → ℕ
top_of tables = (visit_at tables 0).«module»

-- the tables are those of a walk from the module of the first visit
abbrev pub IsWalk : List NetModule → WalkTables → Type 0
IsWalk modules tables = AreTablesOfWalk modules (top_of tables) tables

abbrev pub text_at : Paths → ℕ → List ℕ
text_at paths visit = get_or paths.texts visit []

abbrev pub spelling_at : Paths → ℕ → List ℕ
spelling_at paths visit = get_or paths.spellings visit []

-- the paths of the first so many visited modules
pub record HoldsPaths (modules : List NetModule) (top count : ℕ) (texts spellings : List (List ℕ)) : Type 0 where
  pub texts_are : texts ≡ map (path_text modules top) (take count (visits modules top))
  pub spellings_are : spellings ≡ map (path_sdf modules top) (take count (visits modules top))

pub record ArePaths (modules : List NetModule) (top : ℕ) (paths : Paths) : Type 0 where
  pub texts_are : paths.texts ≡ map (path_text modules top) (visits modules top)
  pub spellings_are : paths.spellings ≡ map (path_sdf modules top) (visits modules top)
