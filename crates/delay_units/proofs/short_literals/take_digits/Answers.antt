-- One digit more, for which there is room.
use Rattle.std.proofs.Common.{◌≤◌, get_or, refl, rules, arith}
use Rattle.delay_units.proofs.ShortLemmas.{one_taken, below_limit, fewer}
use Rattle.delay_units.proofs.short_literals.take_digits.Goals as goal

pub overflow_mul-number : goal.overflow_mul-number
overflow_mul-number c =
    let high : get_or c.loop-rest.rest.now 0 0 ≤ 57 = search rules in
    let below = below_limit c.loop-rest.number (get_or c.loop-rest.rest.now 0 0) c.loop-rest.rest.now c.loop-rest.invariant.taken.small c.in-len1-up.len_at_least c.loop-rest.invariant.few high in
    omega (arith, below)

pub overflow_add-number : goal.overflow_add-number
overflow_add-number c =
    let high : get_or c.loop-rest.rest.now 0 0 ≤ 57 = search rules in
    let below = below_limit c.loop-rest.number (get_or c.loop-rest.rest.now 0 0) c.loop-rest.rest.now c.loop-rest.invariant.taken.small c.in-len1-up.len_at_least c.loop-rest.invariant.few high in
    omega (arith, below)

pub loop-rest-preserved : goal.loop-rest-preserved
loop-rest-preserved c =
    let low : 48 ≤ get_or c.loop-rest.rest.now 0 0 = search rules in
    let high : get_or c.loop-rest.rest.now 0 0 ≤ 57 = search rules in
    record {
      few = fewer c.loop-rest.rest.now c.loop-rest.invariant.few;
      taken = one_taken _ _ c.loop-rest.number _ c.loop-rest.rest.now c.loop-rest.invariant.taken c.in-len1-up.len_at_least c.loop-rest.invariant.few refl low high;
    }
