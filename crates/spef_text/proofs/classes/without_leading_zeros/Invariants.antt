-- What is left has the same digits behind its zeros.
use Rattle.std.proofs.Common.{length, ◌≡◌}
use Rattle.delay_units.specs.Literal.{without_leading_zeros}
use Rattle.spef_text.proofs.classes.without_leading_zeros.Given as goal

abbrev pub invariant-loop-rest : goal.invariant-loop-rest
invariant-loop-rest l = without_leading_zeros l.digits ≡ without_leading_zeros l.rest

abbrev pub decreases-loop-rest : goal.decreases-loop-rest
decreases-loop-rest l = length l.rest
