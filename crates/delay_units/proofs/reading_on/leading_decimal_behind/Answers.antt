-- The number of the literal in front.
use Rattle.delay_units.proofs.AnswerLemmas.{small_number}
use Rattle.delay_units.proofs.ShortMantissas.{leading_behind}
use Rattle.delay_units.proofs.reading_on.leading_decimal_behind.Goals as goal

pub decimal_of-requires : goal.decimal_of-requires
decimal_of-requires c = record { few = λ few. small_number _ _ c.mantissa_behind-places.ensures.tally few }

pub returns : goal.returns
returns c = leading_behind c.args.text.now c.args.rest.now _ _ c.args.short.now _ _ _ c.decimal_of.result c.requires c.mantissa_behind-places.ensures c.leading_exponent.ensures c.decimal_of.ensures
