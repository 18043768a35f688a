use Rattle.std.proofs.Common.{◌≡◌, ℕ, ◌<◌, Some}
use Rattle.slew_states.specs.Arcs.{arc_at}
use Rattle.slew_tests.proofs.tests.netlists.are_in.Given as goal

abbrev pub invariant-loop-arc : goal.invariant-loop-arc
invariant-loop-arc l = (arc net : ℕ) → arc < l.arc-index → ((arc_at l.arcs arc).source ≡ Some net → net < l.nets) × ((arc_at l.arcs arc).target ≡ Some net → net < l.nets)
