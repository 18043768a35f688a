-- The members behind the first one: they end at a colon, at the end, or they are bad.
use Rattle.std.proofs.Common.{sym, ◌∙◌, eqb-true, length}
use Rattle.spef_nets.proofs.MemberLemmas.{answer_for, colon_behind, no_colon_behind, other_behind, none_behind}
use Rattle.spef_nets.proofs.amounts.read_others.Goals as goal

pub returns-in_default : goal.returns-in_default
returns-in_default c = λ first is. none_behind c.args.unit.now c.args.most first c.args.text.now c.in_default.ensures.none

pub returns-in-Some-strip : goal.returns-in-Some-strip
returns-in-Some-strip c = λ first is.
    let unit = c.args.unit.now in
    let most = c.args.most in
    let front = c.in-Some.ensures.some.0 in
    let last = c.in-Some-strip.last.now in
    answer_for unit most (record { min = first; typ = front; max = last }) _ c.all_of.result
    (colon_behind first c.args.text.now front last c.in-Some.rest.now c.in-Some.ensures.some.1 c.in-Some-strip.ensures)
    (c.all_of.ensures unit most (record { min = first; typ = front; max = last }) is (c.reading-typ.ensures unit most front c.in-Some.ensures.some.2)
    (c.reading.ensures unit most last c.read_amount.ensures.amount))

pub returns-in-None : goal.returns-in-None
returns-in-None c = λ first is.
    let unit = c.args.unit.now in
    let most = c.args.most in
    let front = c.in-Some.ensures.some.0 in
    let typ = c.reading-typ.ensures unit most front c.in-Some.ensures.some.2 in
    answer_for unit most (record { min = first; typ = front; max = front }) _ c.all_of-in-None.result
    (no_colon_behind first c.args.text.now front c.in-Some.rest.now c.in-Some.ensures.some.1 (eqb-true (length c.in-Some.rest.now) 0 (sym c.is_empty.ensures ∙ c.if-is_empty.true)))
    (c.all_of-in-None.ensures unit most (record { min = first; typ = front; max = front }) is typ typ)

pub returns-in-None-2 : goal.returns-in-None-2
returns-in-None-2 c = λ first is.
    other_behind c.args.unit.now c.args.most first c.args.text.now c.in-Some.ensures.some.0 c.in-Some.rest.now c.in-Some.ensures.some.1 c.in-None-2.ensures (sym c.is_empty.ensures ∙ c.if-is_empty.false)
