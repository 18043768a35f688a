-- One digit more, and where no more are.
use Rattle.std.proofs.Common.{◌≤◌, get_or, sym, ◌∙◌, rules, arith}
use Rattle.delay_units.proofs.LiteralReading.{nothing_dropped, one_dropped, all_dropped}
use Rattle.delay_units.proofs.fronts.behind_digits.Goals as goal

pub loop-count-init : goal.loop-count-init
loop-count-init c = record { within = omega arith; dropped = nothing_dropped c.args.text.now }

pub loop-count-preserved : goal.loop-count-preserved
loop-count-preserved c =
    let low : 48 ≤ get_or c.args.text.now c.loop-count.count 0 = search rules in
    let high : get_or c.args.text.now c.loop-count.count 0 ≤ 57 = search rules in
    record {
      within = omega (arith, c.loop-count-test.true);
      dropped = one_dropped c.args.text.now c.loop-count.count c.loop-count.invariant.dropped c.loop-count-test.true low high;
    }

pub returns : goal.returns
returns c =
    all_dropped c.args.text.now _ c.loop-count.count c.loop-count.invariant.dropped c.split_at-2.ensures.back c.loop-count.invariant.within (λ lt. absurd (omega (arith, lt, c.loop-count-test.false)))

pub returns-then-not-is_ascii_digit : goal.returns-then-not-is_ascii_digit
returns-then-not-is_ascii_digit c =
    all_dropped c.args.text.now _ c.loop-count.count c.loop-count.invariant.dropped c.split_at.ensures.back c.loop-count.invariant.within (λ lt. sym c.is_ascii_digit.ensures.value ∙ c.if-not-is_ascii_digit.true)
