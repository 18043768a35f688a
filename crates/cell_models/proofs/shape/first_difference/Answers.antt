use Rattle.std.proofs.Common.{arith}
use Rattle.cell_models.proofs.ShapeLemmas.{same_before}
use Rattle.cell_models.proofs.shape.first_difference.Goals as goal

-- src/shape.rt
pub returns-clause-none : goal.returns-clause-none
returns-clause-none c = same_before _ _ c.loop-place.place (omega arith) (omega arith) c.loop-place.invariant
