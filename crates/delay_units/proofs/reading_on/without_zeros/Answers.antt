-- One zero more is taken from the end.
use Rattle.std.proofs.Common.{◌≡◌, ◌*◌, ◌/◌, arith}
use Rattle.delay_units.proofs.ShortTallies.{one_zero_more}
use Rattle.delay_units.proofs.reading_on.without_zeros.Goals as goal

pub loop-front-preserved : goal.loop-front-preserved
loop-front-preserved c =
    let tens : c.loop-front.front ≡ c.loop-front.front / 10 * 10 = omega (arith, c.loop-front-test.true) in
    record { ends = one_zero_more c.args.number c.loop-front.front (c.loop-front.front / 10) c.loop-front.zeros c.loop-front.invariant.ends tens }
