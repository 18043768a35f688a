-- The literal of the parts in front, or none without a digit.
use Rattle.std.proofs.Common.{◌<◌, arith}
use Rattle.delay_units.proofs.AnswerLemmas.{small_number}
use Rattle.delay_units.proofs.FrontSteps.{leading_number, no_number}
use Rattle.delay_units.proofs.literal.read_leading_decimal.Goals as goal

pub decimal_of-requires : goal.decimal_of-requires
decimal_of-requires c = record { few = λ few. small_number _ _ c.read_mantissa-places.ensures.tally few }

pub returns-then-tally-eq0-clause-none : goal.returns-then-tally-eq0-clause-none
returns-then-tally-eq0-clause-none c = no_number c.args.text.now _ _ _ _ _ c.split_sign-negative.ensures c.read_mantissa-places.ensures c.if-tally-eq0.true

pub returns-clause-some : goal.returns-clause-some
returns-clause-some c =
    let some : 0 < c.read_mantissa-places.result.0.digits = omega (arith, c.if-tally-eq0.false) in
    leading_number c.args.text.now _ _ _ _ _ _ _ c.decimal_of.result c.split_sign-negative.ensures c.read_mantissa-places.ensures some c.leading_exponent.ensures c.decimal_of.ensures
