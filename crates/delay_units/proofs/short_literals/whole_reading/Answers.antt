-- The digits are the whole text.
use Rattle.std.proofs.Common.{◌≡◌, length, rules}
use Rattle.delay_units.proofs.FrontSteps.{short_whole}
use Rattle.delay_units.proofs.short_literals.whole_reading.Goals as goal

pub returns-then-is_empty : goal.returns-then-is_empty
returns-then-is_empty c = λ text h.
    let none : length c.args.rest.now ≡ 0 = search rules in
    c.exactly.ensures text (short_whole text c.args.rest.now c.args.short.now h none)
