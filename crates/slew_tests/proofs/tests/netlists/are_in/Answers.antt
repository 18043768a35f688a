use Rattle.std.proofs.Common.{◌≢◌, sym, ap, ◌∙◌, inl, inr, arith}
use Rattle.std.proofs.lemmas.Bool.{cases_eq}
use Rattle.slew_states.specs.Arcs.{arc_at}
use Rattle.slew_tests.proofs.tests.netlists.are_in.Goals as goal

-- src/tests/netlists.rt
pub loop-arc-preserved : goal.loop-arc-preserved
loop-arc-preserved c = λ arc net below. elim (cases_eq arc c.loop-arc.arc-index) [
  | inl is ↦ (
    λ at. c.is_in.ensures c.if-not-is_in.false net (ap (λ k. (arc_at c.args.arcs.now k).source) (sym is) ∙ at),
    λ at. c.is_in-else-not-is_in.ensures c.if-not-is_in-2.false net (ap (λ k. (arc_at c.args.arcs.now k).target) (sym is) ∙ at),
  )
  | inr ne ↦ (let ne' : arc ≢ c.loop-arc.arc-index = ne in c.loop-arc.invariant arc net (omega (arith, below, ne')))
]

pub returns : goal.returns
returns c = λ yes arc net below. c.loop-arc.invariant arc net (omega (arith, below, c.loop-arc-test.false))
