-- A walk begins at the top module.
use Rattle.std.proofs.Common.{◌≡◌, ℕ, ◌<◌, get_or, sym, subst, arith}
use Rattle.std.proofs.lemmas.Option.{slice_get-get_or}
use Rattle.verilog_netlist.specs.NetModules.{NetModule}
use Rattle.hierarchy.specs.WalkTables.{WalkTables, AreTablesOfWalk}
use Rattle.netlist_link.specs.PathTables.{no_visit, top_of}
use Rattle.std.specs.Prelude.{List}

pub walk_starts : (modules : List NetModule) (top : ℕ) (tables : WalkTables) → AreTablesOfWalk modules top tables → top_of tables ≡ top
walk_starts modules top tables are = (are.each_visit 0 (get_or tables.visits 0 no_visit)
    (slice_get-get_or tables.visits 0 no_visit (subst (λ n. 0 < n) (sym are.visits_count) (omega arith)))).here
