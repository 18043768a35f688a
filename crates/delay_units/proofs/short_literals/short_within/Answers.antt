-- The digits before the point, and those behind it.
use Rattle.std.proofs.Common.{◌-◌, length, refl}
use Rattle.delay_units.proofs.ShortLemmas.{positive, behind_whole, pointed_short, pointless_short}
use Rattle.delay_units.proofs.short_literals.short_within.Goals as goal

pub take_digits-whole-requires-clause-small : goal.take_digits-whole-requires-clause-small
take_digits-whole-requires-clause-small c = positive (18 - length c.args.text.now)

pub take_digits-digits-requires-clause-small : goal.take_digits-digits-requires-clause-small
take_digits-digits-requires-clause-small c =
    behind_whole c.args.text.now c.take_digits-whole.result.1.now c.in-Some.fraction.now c.take_digits-whole.result.0 c.take_digits-whole.ensures c.in-Some.ensures

pub returns-else-left-text : goal.returns-else-left-text
returns-else-left-text c =
    pointed_short c.args.text.now c.take_digits-whole.result.1.now c.in-Some.fraction.now c.take_digits-digits.result.1.now c.take_digits-whole.result.0 c.take_digits-digits.result.0 _
    c.take_digits-whole.ensures c.in-Some.ensures c.take_digits-digits.ensures c.if-left-text.false c.requires.few refl refl refl

pub returns-else-rest-text : goal.returns-else-rest-text
returns-else-rest-text c =
    pointless_short c.args.text.now c.take_digits-whole.result.1.now c.take_digits-whole.result.0 _ c.take_digits-whole.ensures c.if-rest-text.false c.requires.few refl refl refl
