-- The digits are the literal in front.
use Rattle.delay_units.proofs.FrontSteps.{reading_in_front}
use Rattle.delay_units.proofs.short_literals.leading_reading.Goals as goal

pub returns-then-goes_on_with_none : goal.returns-then-goes_on_with_none
returns-then-goes_on_with_none c = λ text h.
    reading_in_front c.args.unit.now text c.args.rest.now c.args.short.now _ h (c.goes_on_with_none.ensures c.if-goes_on_with_none.true) (c.exactly.ensures h.front h.is_short)
