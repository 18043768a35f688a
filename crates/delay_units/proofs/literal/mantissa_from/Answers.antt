-- The digits behind the point, or none.
use Rattle.delay_units.proofs.LiteralLemmas.{whole_only, with_fraction, digits_grow}
use Rattle.delay_units.proofs.literal.mantissa_from.Goals as goal

pub overflow_sub-result : goal.overflow_sub-result
overflow_sub-result c =
    let h = c.requires.1 in
    digits_grow c.requires.0 _ _ _ _ _ h (c.take_digits-left.ensures.split h.digits h.tally)

pub returns-in-Some : goal.returns-in-Some
returns-in-Some c = λ text h. with_fraction text _ _ _ _ _ h c.in-Some.ensures (c.take_digits-left.ensures.split h.digits h.tally)

pub returns-in-None : goal.returns-in-None
returns-in-None c = λ text h. whole_only text _ _ h c.in-None.ensures
