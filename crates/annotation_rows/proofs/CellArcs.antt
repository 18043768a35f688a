-- The arcs of cells, and their delays.
use Rattle.std.proofs.Common.{◌≡◌, ℕ, ◌<◌, ap, sym, ◌∙◌, List, [], length, get_or, slice_get, Some, subst}
use Rattle.std.specs.Option.{option_map_or}
use Rattle.cell_models.specs.Cells.{TimedCell}
use Rattle.cell_models.specs.CornerCells.{arcs_at, pin_count_of, pins_at}
use Rattle.cell_models.specs.NamedSets.{NamedCells, set_cells}
use Rattle.cell_models.specs.declared.cell.Arc.{Arc}
use Rattle.netlist_link.specs.FlatNetlist.{FlatNetlist, instance_at}
use Rattle.std.proofs.lemmas.Option.{get_or_from_slice_get}
use Rattle.cell_models.specs.declared.edge.Edge.{Edge}
use Rattle.slew_order.specs.FlatArcs.{no_arc, arcs_of}
use Rattle.annotation_rows.specs.CellPaths.{arc_in}
use Rattle.annotation_rows.specs.PathRows.{TimedDesign, arc_has, cell_arcs}
use Rattle.annotation_rows.specs.SdfEnds.{pin_count}

pub arcs_are : (design : TimedDesign) (instance cell : ℕ) (models : List TimedCell) → cell ≡ (instance_at design.source.netlist instance).cell
    → slice_get (set_cells design.source.cells) cell ≡ Some models → arcs_at models 0 ≡ cell_arcs design instance
arcs_are design instance cell models is here =
    sym (ap (λ found. option_map_or (λ m. arcs_at m 0) found []) here) ∙ ap (λ c. arcs_of design.source.cells c 0) is

pub cell_is : (cells cells' : List NamedCells) (one other : ℕ) (models : List TimedCell) → slice_get (set_cells cells) one ≡ Some models → cells ≡ cells' → one ≡ other
    → slice_get (set_cells cells') other ≡ Some models
cell_is cells cells' one other models here same is = ap (λ c. slice_get (set_cells c) other) (sym same) ∙ ap (λ k. slice_get (set_cells cells) k) (sym is) ∙ here

pub has_is : (arcs also : List Arc) (k : ℕ) (arc : Arc) (edge : Edge) → slice_get arcs k ≡ Some arc → arcs ≡ also → arc_has arc edge ≡ arc_has (arc_in also k) edge
has_is arcs also k arc edge here same =
    ap (λ a. arc_has a edge) (sym (get_or_from_slice_get arcs k arc no_arc here) ∙ ap (λ xs. arc_in xs k) same)

pub name_is : (names : List (List ℕ)) (one other : ℕ) (name : List ℕ) → slice_get names one ≡ Some name → one ≡ other → name ≡ get_or names other []
name_is names one other name here is = sym (get_or_from_slice_get names one name [] here) ∙ ap (λ k. get_or names k []) is

-- the arc that is found is that of its number
pub arc_is : (arcs also : List Arc) (k : ℕ) (arc : Arc) → slice_get arcs k ≡ Some arc → arcs ≡ also → arc ≡ arc_in also k
arc_is arcs also k arc here same = sym (get_or_from_slice_get arcs k arc no_arc here) ∙ ap (λ xs. arc_in xs k) same

pub pin_there : (cells : List NamedCells) (netlist : FlatNetlist) (instance pin : ℕ) (models : List TimedCell)
    → slice_get (set_cells cells) (instance_at netlist instance).cell ≡ Some models → pin < pin_count_of models → pin < pin_count cells netlist instance
pin_there cells netlist instance pin models here below =
    subst (λ n. pin < n) (sym (ap (λ found. length (option_map_or (λ m. pins_at m 0) found [])) here)) below
