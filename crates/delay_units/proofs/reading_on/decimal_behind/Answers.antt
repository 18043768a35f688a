-- The number of the text, or why it is none.
use Rattle.std.proofs.Common.{refl}
use Rattle.delay_units.proofs.AnswerLemmas.{small_number}
use Rattle.delay_units.proofs.ShortMantissas.{number_behind, short_unsigned, some_mantissa}
use Rattle.delay_units.proofs.StopLemmas.{stops_behind_digits}
use Rattle.delay_units.proofs.reading_on.decimal_behind.Goals as goal

pub decimal_of-requires : goal.decimal_of-requires
decimal_of-requires c = record { few = λ few. small_number _ _ c.mantissa_behind-places.ensures.tally few }

pub returns-in-Ok : goal.returns-in-Ok
returns-in-Ok c = number_behind c.args.text.now c.args.rest.now _ c.args.short.now _ _ _ c.decimal_of.result c.requires c.mantissa_behind-places.ensures c.in-Ok.ensures.ok c.decimal_of.ensures

pub returns-in-Err : goal.returns-in-Err
returns-in-Err c =
    let m = c.mantissa_behind-places.ensures in
    stops_behind_digits c.args.text.now _ _ _ _ _ _ _ (short_unsigned c.args.text.now c.args.rest.now c.args.short.now c.requires) m
    (some_mantissa c.args.text.now c.args.rest.now _ c.args.short.now _ _ c.requires m) c.in-Err.ensures.stops refl
