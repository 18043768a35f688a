use Rattle.std.proofs.Common.{◌<◌, ◌-◌, length, refl, arith}
use Rattle.delay_units.proofs.AnswerLemmas.{the_literal, spells_from, answer_from, number_from, fault_from, small_number}
use Rattle.delay_units.proofs.OneLiteral.{answer_to}
use Rattle.delay_units.proofs.StopLemmas.{stops_without_digits, stops_behind_digits}
use Rattle.delay_units.proofs.literal.read_decimal.Goals as goal

pub decimal_of-requires : goal.decimal_of-requires
decimal_of-requires c = record { few = λ few. small_number _ _ c.read_mantissa-places.ensures.tally few }

pub returns-in-Ok-clause-number : goal.returns-in-Ok-clause-number
returns-in-Ok-clause-number c =
    let s = c.split_sign-negative.ensures in
    let m = c.read_mantissa-places.ensures in
    let p = c.in-Ok.ensures.ok in
    let some : 0 < c.read_mantissa-places.result.0.digits = omega (arith, c.if-tally-eq0.false) in
    let spells = spells_from c.args.text.now _ _ _ _ _ _ s m some p in
    number_from c.args.text.now _ c.decimal_of.result spells (answer_from (the_literal s m p) _ _ _ _ _ s.sign_is m.tally m.counted p.negative p.size c.decimal_of.ensures)

pub returns-in-Ok-clause-fault : goal.returns-in-Ok-clause-fault
returns-in-Ok-clause-fault c =
    let s = c.split_sign-negative.ensures in
    let m = c.read_mantissa-places.ensures in
    let p = c.in-Ok.ensures.ok in
    let some : 0 < c.read_mantissa-places.result.0.digits = omega (arith, c.if-tally-eq0.false) in
    let spells = spells_from c.args.text.now _ _ _ _ _ _ s m some p in
    fault_from c.args.text.now _ c.decimal_of.result spells (answer_from (the_literal s m p) _ _ _ _ _ s.sign_is m.tally m.counted p.negative p.size c.decimal_of.ensures)

pub returns-then-tally-eq0-clause-fault : goal.returns-then-tally-eq0-clause-fault
returns-then-tally-eq0-clause-fault c =
    stops_without_digits c.args.text.now _ _ _ _ _ _ c.split_sign-negative.ensures c.read_mantissa-places.ensures c.if-tally-eq0.true refl

pub returns-then-tally-eq0-clause-only : goal.returns-then-tally-eq0-clause-only
returns-then-tally-eq0-clause-only c = λ l s.
    absurd ((stops_without_digits c.args.text.now _ _ _ _ _ (length c.args.text.now - length c.read_mantissa-places.result.2.now) c.split_sign-negative.ensures c.read_mantissa-places.ensures c.if-tally-eq0.true refl).0 (l, s))

pub returns-in-Err-clause-fault : goal.returns-in-Err-clause-fault
returns-in-Err-clause-fault c =
    let some : 0 < c.read_mantissa-places.result.0.digits = omega (arith, c.if-tally-eq0.false) in
    stops_behind_digits c.args.text.now _ _ _ _ _ _ _ c.split_sign-negative.ensures c.read_mantissa-places.ensures some c.in-Err.ensures.stops refl

pub returns-in-Err-clause-only : goal.returns-in-Err-clause-only
returns-in-Err-clause-only c = λ l s.
    let some : 0 < c.read_mantissa-places.result.0.digits = omega (arith, c.if-tally-eq0.false) in
    absurd ((stops_behind_digits c.args.text.now _ _ _ _ _ _ (length c.args.text.now - c.in-Err.left) c.split_sign-negative.ensures c.read_mantissa-places.ensures some c.in-Err.ensures.stops refl).0 (l, s))

pub returns-in-Ok-clause-only : goal.returns-in-Ok-clause-only
returns-in-Ok-clause-only c = λ l b.
    let s = c.split_sign-negative.ensures in
    let m = c.read_mantissa-places.ensures in
    let p = c.in-Ok.ensures.ok in
    let some : 0 < c.read_mantissa-places.result.0.digits = omega (arith, c.if-tally-eq0.false) in
    let spells = spells_from c.args.text.now _ _ _ _ _ _ s m some p in
    answer_to c.args.text.now _ l c.decimal_of.result spells b (answer_from (the_literal s m p) _ _ _ _ _ s.sign_is m.tally m.counted p.negative p.size c.decimal_of.ensures)
