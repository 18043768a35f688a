-- A sign, a mantissa and an exponent are the literal, and without a mantissa there is none.
use Rattle.delay_units.proofs.FrontSteps.{some_literal, no_literal_there}
use Rattle.delay_units.proofs.fronts.behind_literal.Goals as goal

pub returns-in-Some-clause-some : goal.returns-in-Some-clause-some
returns-in-Some-clause-some c =
    some_literal c.args.text.now _ _ _ _ _ c.split_sign.ensures c.in-Some.ensures.some c.behind_exponent.ensures.1

pub returns-in-None-clause-none : goal.returns-in-None-clause-none
returns-in-None-clause-none c = no_literal_there c.args.text.now _ _ c.split_sign.ensures c.in-None.ensures.none
