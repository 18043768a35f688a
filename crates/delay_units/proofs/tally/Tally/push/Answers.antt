use Rattle.std.proofs.Common.{◌-◌, arith}
use Rattle.delay_units.proofs.TallyLemmas.{one_more_zero, first_significant, next_significant, room_for_digit}
use Rattle.delay_units.proofs.tally.Tally.push.Goals as goal

pub returns-then-digit-eq48-clause-tally : goal.returns-then-digit-eq48-clause-tally
returns-then-digit-eq48-clause-tally c = λ ds h.
    rw c.if-digit-eq48.true (one_more_zero ds c.args.self.now h)

pub returns-then-self-eq0-clause-tally : goal.returns-then-self-eq0-clause-tally
returns-then-self-eq0-clause-tally c = λ ds h.
    first_significant ds c.args.self.now c.args.digit (omega (arith, c.requires.low, c.if-digit-eq48.false)) c.requires.high c.if-self-eq0.true h

pub number_with-requires-clause-room : goal.number_with-requires-clause-room
number_with-requires-clause-room c = λ few.
    room_for_digit c.requires.tally.0 c.args.self.now (c.args.digit - 48) c.requires.tally.1 few (omega (arith, c.requires.low, c.requires.high))

pub returns-clause-tally : goal.returns-clause-tally
returns-clause-tally c = λ ds h.
    next_significant ds c.args.self.now c.args.digit c.number_with.result (omega (arith, c.requires.low, c.if-digit-eq48.false)) c.requires.high
    (omega (arith, c.if-self-eq0.false)) c.number_with.ensures h
