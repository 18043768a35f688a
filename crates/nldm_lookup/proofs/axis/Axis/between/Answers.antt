use Rattle.std.proofs.Common.{◌≡◌, ◌-◌, slice_get, Some, subst, arith}
use Rattle.nldm_lookup.specs.Betweens.{below, above, sole, inside}
use Rattle.nldm_lookup.proofs.axis.Axis.between.Goals as goal

pub returns-then-last-eq0-clause-between : goal.returns-then-last-eq0-clause-between
returns-then-last-eq0-clause-between g c = sole (omega (arith, c.len-last.ensures.len, c.len-last.ensures.whole.some, c.if-last-eq0.true))

pub past-requires-clause-past : goal.past-requires-clause-past
past-requires-clause-past g c =
    below c.point-lowest.result (omega (arith, c.len-last.ensures.len, c.if-last-eq0.false)) c.point-lowest.ensures.value c.if-quantity-lowest.true

pub past-requires-then-highest-quantity-clause-past : goal.past-requires-then-highest-quantity-clause-past
past-requires-then-highest-quantity-clause-past g c =
    above c.point-highest.result (omega (arith, c.len-last.ensures.len, c.if-last-eq0.false))
    (subst (λ n. slice_get c.args.self.now (n - 1) ≡ Some c.point-highest.result) c.len-last.ensures.len c.point-highest.ensures.value) c.if-highest-quantity.true

pub returns-clause-between : goal.returns-clause-between
returns-clause-between g c = inside c.neighbours.ensures.neighbours
