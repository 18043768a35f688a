-- At most one fault stands between the shapes of some cells.
use Rattle.std.proofs.Common.{◌≡◌, ℕ, ◌+◌, ◌<◌, List, slice_get, Option, sym, ◌∙◌, ap, subst, arith}
use Rattle.cell_models.specs.Cells.{TimedCell}
use Rattle.cell_models.specs.CornerCells.{shape_at}
use Rattle.cell_models.specs.Joining.{DifferFirst, DifferAt, OneShapeFault}
use Rattle.cell_models.specs.declared.shape.Entry.{Entry}
use Rattle.cell_models.specs.declared.shape.ShapeFault.{ShapeFault}

-- a shape that differs at a corner differs at no later one first
not_before : (cells : List TimedCell) (corner other place also : ℕ) → DifferAt cells corner place → DifferAt cells other also → corner < other → ⊥
not_before cells corner other place also here there before = here.differ.unlike (ap (λ shape. slice_get shape place) (sym (there.least corner before)))

same_corner : (cells : List TimedCell) (corner other place also : ℕ) → DifferAt cells corner place → DifferAt cells other also → corner ≡ other
same_corner cells corner other place also here there =
    let first : ¬ (corner < other) = not_before cells corner other place also here there in
    let second : ¬ (other < corner) = not_before cells other corner also place there here in
    omega arith

same_place : (one other : List Entry) (place also : ℕ) → DifferFirst one other place → DifferFirst one other also → place ≡ also
same_place one other place also here there =
    let not_before : ¬ (place < also) = λ before. here.unlike (there.alike place before) in
    let not_behind : ¬ (also < place) = λ behind. there.unlike (here.alike also behind) in
    omega arith

abbrev fault_of : ℕ → ℕ → Option Entry → Option Entry → ShapeFault
fault_of corner place first other = record { corner = corner; place = place; first = first; other = other }

same_fault : (corner corner' place place' : ℕ) (first first' other other' : Option Entry) → corner ≡ corner' → place ≡ place' → first ≡ first' → other ≡ other' → fault_of corner place first other ≡ fault_of corner' place' first' other'
same_fault corner corner' place place' first first' other other' a b c d = cc

pub one_shape_fault_lem : OneShapeFault
one_shape_fault_lem cells one other here there =
    let corner : one.corner ≡ other.corner = same_corner cells one.corner other.corner here.before there.before here.differ there.differ in
    let differ : DifferFirst (shape_at cells 0) (shape_at cells other.corner) here.before =
    subst (λ (corner : ℕ). DifferFirst (shape_at cells 0) (shape_at cells corner) here.before) corner here.differ.differ in
    let before : here.before ≡ there.before = same_place (shape_at cells 0) (shape_at cells other.corner) here.before there.before differ there.differ.differ in
    let place : one.place ≡ other.place = here.from_one ∙ ap (λ before. before + 1) before ∙ sym there.from_one in
    let first : one.first ≡ other.first = here.first ∙ ap (slice_get (shape_at cells 0)) before ∙ sym there.first in
    let entry : one.other ≡ other.other =
    here.other ∙ ap (λ corner. slice_get (shape_at cells corner) here.before) corner ∙ ap (slice_get (shape_at cells other.corner)) before ∙ sym there.other in
    same_fault one.corner other.corner one.place other.place one.first other.first one.other other.other corner place first entry
