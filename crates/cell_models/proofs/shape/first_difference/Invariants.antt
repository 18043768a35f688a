use Rattle.std.proofs.Common.{◌≡◌, ℕ, ◌<◌, slice_get}
use Rattle.cell_models.specs.Shapes.{shape_of}
use Rattle.cell_models.proofs.shape.first_difference.Given as goal

-- the shapes are the same before the place
abbrev pub invariant-loop-place : goal.invariant-loop-place
invariant-loop-place l = (earlier : ℕ) → earlier < l.place → slice_get (shape_of l.one) earlier ≡ slice_get (shape_of l.other) earlier
