use Rattle.std.proofs.Common.{◌≡◌, ℕ, List, sym, subst}
use Rattle.cell_models.specs.NamedSets.{set_names}
use Rattle.hierarchy.specs.WalkTables.{AreTablesOfWalk}
use Rattle.netlist_link.specs.CellPlaces.{AreCellPlaces}
use Rattle.netlist_link.specs.PathTables.{top_of, ArePaths}
use Rattle.netlist_link.proofs.WalkStarts.{walk_starts}
use Rattle.netlist_link.proofs.design_tables.tables_of.Goals as goal

pub paths_of_walk-requires : goal.paths_of_walk-requires
paths_of_walk-requires g c = subst (λ (top : ℕ). AreTablesOfWalk c.args.modules.now top c.in_ok-walk.walk)
    (sym (walk_starts c.args.modules.now c.args.top c.in_ok-walk.walk c.in_ok-walk.ensures.ok)) c.in_ok-walk.ensures.ok

pub returns : goal.returns
returns g c =
    let starts : top_of c.in_ok-walk.walk ≡ c.args.top = walk_starts c.args.modules.now c.args.top c.in_ok-walk.walk c.in_ok-walk.ensures.ok in
    let cells = c.in_ok-instance_cells.instance_cells in
    let places = c.in_ok-places.places.items in
    let places_are : AreCellPlaces (set_names c.args.cells.now) cells.names places =
    subst (λ (l : List (List ℕ)). AreCellPlaces l cells.names places) c.names.ensures
    (subst (λ (l : List (List ℕ)). AreCellPlaces c.names.result.now l places) c.names-2.ensures c.in_ok-places.ensures) in
    record {
      walk = c.in_ok-walk.ensures.ok;
      starts = starts;
      paths = subst (λ (top : ℕ). ArePaths c.args.modules.now top c.in_ok-paths.paths) starts c.in_ok-paths.ensures;
      instance_cells = c.in_ok-instance_cells.ensures;
      places = places_are;
      ports = c.in_ok-ports.ensures;
      pins = c.in_ok-pins.ensures.are;
      distinct = c.in_ok-pins.ensures.distinct;
    }
