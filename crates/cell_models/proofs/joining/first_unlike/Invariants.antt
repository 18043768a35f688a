use Rattle.std.proofs.Common.{◌≡◌, ℕ, ◌<◌}
use Rattle.cell_models.specs.CornerCells.{shape_at}
use Rattle.cell_models.proofs.joining.first_unlike.Given as goal

-- the shapes before the corner are that of the first
abbrev pub invariant-loop-corner : goal.invariant-loop-corner
invariant-loop-corner l = (earlier : ℕ) → earlier < l.corner → shape_at l.cells earlier ≡ shape_at l.cells 0
