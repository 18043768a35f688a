-- An arc of an instance has at each corner the edges that it has at the first.
use Rattle.std.proofs.Common.{◌≡◌, ℕ, ◌<◌, true, ◌∙◌, ap, sym, refl, List, [], length, get_or, slice_get, Some, arith}
use Rattle.std.specs.Prelude.{IsSome}
use Rattle.std.specs.Option.{option_map_or}
use Rattle.std.proofs.lemmas.List.{length-map}
use Rattle.std.proofs.lemmas.Option.{slice_get-get_or}
use Rattle.cell_models.specs.Cells.{TimedCell}
use Rattle.cell_models.specs.CornerCells.{AreCornerCells, arcs_at}
use Rattle.cell_models.specs.NamedSets.{NamedCells, set_cells}
use Rattle.cell_models.specs.Shapes.{arc_entry}
use Rattle.cell_models.specs.declared.cell.Arc.{Arc}
use Rattle.cell_models.specs.declared.edge.Edge.{Edge}
use Rattle.cell_models.specs.declared.edge.Edge.TheVariants.{Rise, Fall}
use Rattle.cell_models.proofs.CornerLemmas.{arc_count_there}
use Rattle.netlist_link.specs.FlatNetlist.{FlatNetlist, instance_at, no_instance}
use Rattle.netlist_link.specs.Linked.{IsLinked}
use Rattle.slew_states.specs.Arcs.{has_edge}
use Rattle.slew_order.specs.FlatArcs.{IsArcAt, arcs_of, cell_arc, flat_at, no_arc}
use Rattle.slew_order.specs.Timings.{arc_has, tables_of}
use Rattle.slew_order.specs.declared.arcs.ArcAt.{ArcAt}
use Rattle.slew_order.proofs.Links.{same_entry}
use Rattle.slew_order.specs.Shapes.{AreShaped}

-- arcs of one shape have the same edges
pub entry_tables : (one other : Arc) (edge : Edge) → arc_entry one ≡ arc_entry other → arc_has one edge ≡ arc_has other edge
entry_tables one other Rise same = cc
entry_tables one other Fall same = cc

has_tables : (arc : Arc) (edge : Edge) → arc_has arc edge ≡ true → IsSome (tables_of arc edge)
has_tables arc Rise has = has
has_tables arc Fall has = has

tables_has : (arc : Arc) (edge : Edge) → IsSome (tables_of arc edge) → arc_has arc edge ≡ true
tables_has arc Rise some = some
tables_has arc Fall some = some

flat_has : (netlist : FlatNetlist) (cells : List NamedCells) (at : ArcAt) (edge : Edge) → has_edge (flat_at netlist cells at) edge ≡ arc_has (cell_arc netlist cells at 0) edge
flat_has netlist cells at Rise = refl
flat_has netlist cells at Fall = refl

-- an arc of a cell at a corner
same_edges : (models : List TimedCell) (count corner i : ℕ) (edge : Edge) → AreCornerCells count models → corner < count → i < length (arcs_at models 0)
    → arc_has (get_or (arcs_at models corner) i no_arc) edge ≡ arc_has (get_or (arcs_at models 0) i no_arc) edge
same_edges models count corner i edge whole below within =
    let none : TimedCell = record { pins = []; arcs = [] } in
    let many = whole.every in
    let here = slice_get-get_or models corner none (omega (arith, many, below)) in
    let lengths = arc_count_there models corner (get_or models corner none) here whole.shaped in
    let arcs : length (arcs_at models corner) ≡ length (get_or models corner none).arcs = ap (λ found. length (option_map_or (λ (cell : TimedCell). cell.arcs) found [])) here in
    entry_tables (get_or (arcs_at models corner) i no_arc) (get_or (arcs_at models 0) i no_arc) edge
    (same_entry models count corner i (get_or (arcs_at models corner) i no_arc) whole (slice_get-get_or (arcs_at models corner) i no_arc (omega (arith, arcs, lengths, within))))

module _ (netlist : FlatNetlist) (cells : List NamedCells) (linked : IsLinked cells netlist) (count : ℕ) (shaped : AreShaped count cells) (corner : ℕ) (below : corner < count)
    (at : ArcAt) (there : IsArcAt netlist cells at) (edge : Edge) where
  edges_there : arc_has (cell_arc netlist cells at corner) edge ≡ arc_has (cell_arc netlist cells at 0) edge
  edges_there =
      let cell = (instance_at netlist at.instance).cell in
      let models : List TimedCell = get_or (set_cells cells) cell [] in
      let within = linked.cell at.instance (instance_at netlist at.instance) (slice_get-get_or netlist.instances at.instance no_instance there.0) in
      let many = length-map cells (λ (set : NamedCells). set.cells) in
      let here : slice_get (set_cells cells) cell ≡ Some models = slice_get-get_or (set_cells cells) cell [] (omega (arith, within, many)) in
      let arcs : (corner : ℕ) → arcs_of cells cell corner ≡ arcs_at models corner = λ corner. ap (λ found. option_map_or (λ m. arcs_at m corner) found (let empty : List Arc = [] in empty)) here in
      let low = there.1 in
      let size = ap length (arcs 0) in
      ap (λ list. arc_has (get_or list at.arc no_arc) edge) (arcs corner)
      ∙ same_edges models count corner at.arc edge (shaped cell within) below (omega (arith, low, size))
      ∙ ap (λ list. arc_has (get_or list at.arc no_arc) edge) (sym (arcs 0))

  pub tables_there : has_edge (flat_at netlist cells at) edge ≡ true → IsSome (tables_of (cell_arc netlist cells at corner) edge)
  tables_there has = has_tables (cell_arc netlist cells at corner) edge (edges_there ∙ sym (flat_has netlist cells at edge) ∙ has)

  pub edge_there : IsSome (tables_of (cell_arc netlist cells at corner) edge) → has_edge (flat_at netlist cells at) edge ≡ true
  edge_there some = flat_has netlist cells at edge ∙ sym edges_there ∙ tables_has (cell_arc netlist cells at corner) edge some
