-- Zeros alone, or a number without the zeros at its end.
use Rattle.delay_units.proofs.ShortTallies.{tally_of_zeros, tally_of_number}
use Rattle.delay_units.proofs.reading_on.tally_of.Goals as goal

pub returns-then-number-eq0 : goal.returns-then-number-eq0
returns-then-number-eq0 c = λ ds are size few is. tally_of_zeros ds c.args.number c.args.count are size is c.if-number-eq0.true

pub returns : goal.returns
returns c = λ ds are size few is.
    tally_of_number ds c.args.number c.args.count c.without_zeros-front.result.0 c.without_zeros-front.result.1 c.ilog10.result are size few is
    c.without_zeros-front.ensures.split c.without_zeros-front.ensures.last c.ilog10.ensures.power_le c.ilog10.ensures.next_power_gt
