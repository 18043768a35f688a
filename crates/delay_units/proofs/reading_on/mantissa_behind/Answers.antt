-- The tally of the digits that are taken goes on with those that follow.
use Rattle.std.proofs.Common.{◌≡◌, ◌<◌, ◌^◌, false, length, refl, rules, arith}
use Rattle.delay_units.proofs.ShortMantissas.{taken, pointed_tally, whole_tally, few_taken, rest_of, pointed_mantissa, whole_behind}
use Rattle.delay_units.proofs.reading_on.mantissa_behind.Goals as goal

pub take_digits-tail-requires-clause-room : goal.take_digits-tail-requires-clause-room
take_digits-tail-requires-clause-room c =
    let t = pointed_tally c.args.text.now c.args.rest.now c.args.short.now _ c.requires c.if-short.true c.tally_of-tally.ensures in
    let few = few_taken c.args.text.now c.args.rest.now c.args.short.now _ c.requires t in
    let l : length c.args.rest.now < 2 ^ 63 = search rules in
    omega (arith, few, l)

pub take_digits-tail-requires-clause-tally : goal.take_digits-tail-requires-clause-tally
take_digits-tail-requires-clause-tally c = (_, pointed_tally c.args.text.now c.args.rest.now c.args.short.now _ c.requires c.if-short.true c.tally_of-tally.ensures)

pub overflow_sub-places : goal.overflow_sub-places
overflow_sub-places c =
    let t = pointed_tally c.args.text.now c.args.rest.now c.args.short.now _ c.requires c.if-short.true c.tally_of-tally.ensures in
    rest_of (taken c.requires) c.args.rest.now c.take_digits-tail.result.now _ (c.take_digits-tail.ensures.split (taken c.requires) t)

pub returns-then-short : goal.returns-then-short
returns-then-short c =
    let t = pointed_tally c.args.text.now c.args.rest.now c.args.short.now _ c.requires c.if-short.true c.tally_of-tally.ensures in
    pointed_mantissa c.args.text.now c.args.rest.now c.take_digits-tail.result.now c.args.short.now _ _ c.requires c.if-short.true (c.take_digits-tail.ensures.split (taken c.requires) t) refl

pub mantissa_from-requires : goal.mantissa_from-requires
mantissa_from-requires c =
    let none : c.args.short.now.pointed ≡ false = search rules in
    let t = whole_tally c.args.text.now c.args.rest.now c.args.short.now _ c.requires none c.tally_of-whole.ensures in
    let l : length c.args.text.now < 2 ^ 64 = search rules in
    (c.args.text.now, whole_behind c.args.text.now c.args.rest.now c.take_digits-tail-2.result.now c.args.short.now _ c.requires none (c.take_digits-tail-2.ensures.split (taken c.requires) t), l)

pub returns : goal.returns
returns c =
    let none : c.args.short.now.pointed ≡ false = search rules in
    let t = whole_tally c.args.text.now c.args.rest.now c.args.short.now _ c.requires none c.tally_of-whole.ensures in
    c.mantissa_from.ensures c.args.text.now (whole_behind c.args.text.now c.args.rest.now c.take_digits-tail-2.result.now c.args.short.now _ c.requires none (c.take_digits-tail-2.ensures.split (taken c.requires) t))
