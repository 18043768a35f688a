use Rattle.std.proofs.Common.{◌≤◌, get_or, refl, rules, arith}
use Rattle.delay_units.proofs.LiteralLemmas.{sized_more, sized_still}
use Rattle.delay_units.proofs.literal.read_size.Goals as goal

pub loop-rest-preserved-then-size-le99 : goal.loop-rest-preserved-then-size-le99
loop-rest-preserved-then-size-le99 c =
    let low : 48 ≤ get_or c.loop-rest.rest.now 0 0 = search rules in
    let high : get_or c.loop-rest.rest.now 0 0 ≤ 57 = search rules in
    record {
      small = omega (arith, high, c.if-size-le99.true);
      sized = sized_more c.args.text.now c.loop-rest.size _ c.loop-rest.rest.now c.loop-rest.invariant.sized c.in-len1-up.len_at_least refl low high c.if-size-le99.true;
    }

pub loop-rest-preserved : goal.loop-rest-preserved
loop-rest-preserved c =
    let low : 48 ≤ get_or c.loop-rest.rest.now 0 0 = search rules in
    let high : get_or c.loop-rest.rest.now 0 0 ≤ 57 = search rules in
    record {
      small = c.loop-rest.invariant.small;
      sized = sized_still c.args.text.now c.loop-rest.size _ c.loop-rest.rest.now c.loop-rest.invariant.sized c.in-len1-up.len_at_least refl low high (omega (arith, c.if-size-le99.false));
    }
