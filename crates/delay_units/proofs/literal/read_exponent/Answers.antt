use Rattle.std.proofs.Common.{◌≡◌, ◌<◌, length, rules}
use Rattle.delay_units.proofs.LiteralLemmas.{no_mark_stops_at, exponent_read_at, no_digits_stop, rest_stops}
use Rattle.delay_units.proofs.literal.read_exponent.Goals as goal

pub returns-in_default-clause-stops : goal.returns-in_default-clause-stops
returns-in_default-clause-stops c =
    let l : 0 < length c.args.text.now = search rules in
    no_mark_stops_at c.args.text.now l c.in_default.ensures

pub returns-then-is_empty-2-clause-stops : goal.returns-then-is_empty-2-clause-stops
returns-then-is_empty-2-clause-stops c =
    let l : length c.split_sign-negative.result.1.now ≡ 0 = search rules in
    no_digits_stop c.args.text.now _ _ _ _ _ c.in-Some.ensures c.split_sign-negative.ensures c.read_size-size.ensures l

pub returns-then-not-is_empty-clause-stops : goal.returns-then-not-is_empty-clause-stops
returns-then-not-is_empty-clause-stops c =
    let l : 0 < length c.read_size-size.result.1.now = search rules in
    rest_stops c.args.text.now _ _ _ _ _ c.in-Some.ensures c.split_sign-negative.ensures c.read_size-size.ensures l

pub returns-clause-ok : goal.returns-clause-ok
returns-clause-ok c =
    let l : 0 < length c.split_sign-negative.result.1.now = search rules in
    let e : length c.read_size-size.result.1.now ≡ 0 = search rules in
    exponent_read_at c.args.text.now _ _ _ _ _ c.in-Some.ensures c.split_sign-negative.ensures c.read_size-size.ensures l e
