-- No mark, no digit behind it and its sign, or an exponent.
use Rattle.delay_units.proofs.FrontSteps.{unmarked_exponent, no_digit_exponent, some_exponent}
use Rattle.delay_units.proofs.literal.leading_exponent.Goals as goal

pub returns-in_default : goal.returns-in_default
returns-in_default c = unmarked_exponent c.args.text.now c.in_default.ensures

pub returns-then-rest-digits : goal.returns-then-rest-digits
returns-then-rest-digits c =
    no_digit_exponent c.args.text.now _ _ _ _ _ c.in-Some.ensures c.split_sign-negative.ensures c.read_size-size.ensures c.if-rest-digits.true

pub returns : goal.returns
returns c = some_exponent c.args.text.now _ _ _ _ _ c.in-Some.ensures c.split_sign-negative.ensures c.read_size-size.ensures c.if-rest-digits.false
