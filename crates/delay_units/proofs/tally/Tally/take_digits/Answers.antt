use Rattle.std.proofs.Common.{◌≤◌, get_or, refl, rules}
use Rattle.delay_units.proofs.TallyLemmas.{one_more_of, room_after}
use Rattle.delay_units.proofs.tally.Tally.take_digits.Goals as goal

pub loop-rest-preserved : goal.loop-rest-preserved
loop-rest-preserved c =
    let some = c.loop-rest.invariant.some in
    let p = c.push.ensures.tally in
    let low : 48 ≤ get_or c.loop-rest.rest.now 0 0 = search rules in
    let high : get_or c.loop-rest.rest.now 0 0 ≤ 57 = search rules in
    record {
      room = room_after c.loop-rest.rest.now _ _ c.in-len1-up.len_at_least c.push.ensures.digits c.loop-rest.invariant.room;
      some = (_, p some.0 some.1);
      taken = one_more_of c.args.self.now c.args.text.now _ _ _ c.loop-rest.rest.now c.loop-rest.invariant.taken c.in-len1-up.len_at_least refl low high p;
    }
