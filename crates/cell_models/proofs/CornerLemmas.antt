-- Cells of the corners by the numbers of these.
use Rattle.std.proofs.Common.{◌≡◌, ℕ, ◌<◌, List, [], ◌∷◌, length, slice_get, All, Some, sym, ◌∙◌, ap, get_or}
use Rattle.std.specs.Option.{option_map_or}
use Rattle.std.proofs.lemmas.Option.{slice_get-get_or, slice_get_within, get_or_from_slice_get}
use Rattle.std.proofs.lemmas.List.{length-map}
use Rattle.std.proofs.lemmas.List.Elements.{All-get_or}
use Rattle.cell_models.specs.Cells.{TimedCell}
use Rattle.cell_models.specs.Shapes.{pin_entry, arc_entry, shape_of}
use Rattle.cell_models.specs.SameShapes.{same_pins, same_arcs}
use Rattle.cell_models.specs.CornerCells.{shape_at, pin_count_of, arc_count_of, AreOneShape}
use Rattle.cell_models.specs.Joining.{DifferAt}

-- a fact of each element is one of the element at a place
pub at_place : {X : Type 0} (P : X → Type 0) (xs : List X) (place : ℕ) (x : X) → slice_get xs place ≡ Some x → All P xs → P x
at_place P xs place x here all =
    let is : get_or xs place x ≡ x = get_or_from_slice_get xs place x x here in
    rw is at (All-get_or P xs place x (slice_get_within xs place x here) all)

-- cells of one shape have so many pins and arcs as the first
pub shape_there : (cells : List TimedCell) (corner : ℕ) (cell : TimedCell) → slice_get cells corner ≡ Some cell → AreOneShape cells → shape_of cell ≡ shape_at cells 0
shape_there cells corner cell here shaped = at_place (λ cell. shape_of cell ≡ shape_at cells 0) cells corner cell here shaped

pub pin_count_there : (cells : List TimedCell) (corner : ℕ) (cell : TimedCell) → slice_get cells corner ≡ Some cell → AreOneShape cells → length cell.pins ≡ pin_count_of cells
pin_count_there [] corner cell here shaped = cc
pin_count_there (first ∷ cells) corner cell here shaped =
    sym (length-map cell.pins pin_entry) ∙ ap length (same_pins cell first (shape_there (first ∷ cells) corner cell here shaped)) ∙ length-map first.pins pin_entry

pub arc_count_there : (cells : List TimedCell) (corner : ℕ) (cell : TimedCell) → slice_get cells corner ≡ Some cell → AreOneShape cells → length cell.arcs ≡ arc_count_of cells
arc_count_there [] corner cell here shaped = cc
arc_count_there (first ∷ cells) corner cell here shaped =
    sym (length-map cell.arcs arc_entry) ∙ ap length (same_arcs cell first (shape_there (first ∷ cells) corner cell here shaped)) ∙ length-map first.arcs arc_entry

-- cells whose shape is that of the first at each corner are of one shape
pub one_shape : (cells : List TimedCell) → ((corner : ℕ) → corner < length cells → shape_at cells corner ≡ shape_at cells 0) → AreOneShape cells
one_shape cells same k d below = ap (λ cell. option_map_or shape_of cell []) (sym (slice_get-get_or cells k d below)) ∙ same k below

-- cells that differ at a corner are not
pub not_one_shape : (cells : List TimedCell) (corner place : ℕ) → DifferAt cells corner place → ¬ AreOneShape cells
not_one_shape cells corner place at_corner shaped =
    let none : TimedCell = record { pins = []; arcs = [] } in
    let here = slice_get-get_or cells corner none at_corner.within in
    let same : shape_at cells corner ≡ shape_at cells 0 = ap (λ cell. option_map_or shape_of cell []) here ∙ shaped corner none at_corner.within in
    at_corner.differ.unlike (ap (λ shape. slice_get shape place) (sym same))
