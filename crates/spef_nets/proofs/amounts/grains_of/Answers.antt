-- The first member: it ends at a colon, at the end, or it is bad.
use Rattle.std.proofs.Common.{sym, ◌∙◌, eqb-true, length, position}
use Rattle.spef_text.specs.Classes.{is_colon}
use Rattle.spef_nets.specs.Values.{single, triple_of, triple_behind, IsAnswerOf}
use Rattle.spef_nets.proofs.MemberLemmas.{answer_for, colon_of, no_colon_of, other_of, none_of}
use Rattle.spef_nets.proofs.amounts.grains_of.Goals as goal

pub returns-in_default-clause-err : goal.returns-in_default-clause-err
returns-in_default-clause-err c = (none_of c.args.unit.now c.args.most c.args.text.now c.in_default.ensures.none).1

others_read : (c : goal.After-read_others) → IsAnswerOf c.args.unit.now c.args.most (triple_of c.args.text.now) c.read_others.result
others_read c =
    let unit = c.args.unit.now in
    let most = c.args.most in
    let front = c.in-Some.ensures.some.0 in
    let others = c.in-Some-strip.others.now in
    answer_for unit most (triple_behind front others (position is_colon others)) _ c.read_others.result
    (colon_of c.args.text.now front others c.in-Some.rest.now c.in-Some.ensures.some.1 c.in-Some-strip.ensures)
    (c.read_others.ensures front (c.reading-first.ensures unit most front c.in-Some.ensures.some.2))

pub returns-in-Some-strip-clause-ok : goal.returns-in-Some-strip-clause-ok
returns-in-Some-strip-clause-ok c = (others_read c).0

pub returns-in-Some-strip-clause-err : goal.returns-in-Some-strip-clause-err
returns-in-Some-strip-clause-err c = (others_read c).1

alone_read : (c : goal.After-alone) → IsAnswerOf c.args.unit.now c.args.most (triple_of c.args.text.now) c.alone.result
alone_read c =
    let unit = c.args.unit.now in
    let most = c.args.most in
    let front = c.in-Some.ensures.some.0 in
    answer_for unit most (single front) _ c.alone.result
    (no_colon_of c.args.text.now front c.in-Some.rest.now c.in-Some.ensures.some.1 (eqb-true (length c.in-Some.rest.now) 0 (sym c.is_empty.ensures ∙ c.if-is_empty.true)))
    (c.alone.ensures unit most front (c.reading-first.ensures unit most front c.in-Some.ensures.some.2))

pub returns-in-None-clause-ok : goal.returns-in-None-clause-ok
returns-in-None-clause-ok c = (alone_read c).0

pub returns-in-None-clause-err : goal.returns-in-None-clause-err
returns-in-None-clause-err c = (alone_read c).1

pub returns-in-None-2-clause-err : goal.returns-in-None-2-clause-err
returns-in-None-2-clause-err c =
    (other_of c.args.unit.now c.args.most c.args.text.now c.in-Some.ensures.some.0 c.in-Some.rest.now c.in-Some.ensures.some.1 c.in-None-2.ensures (sym c.is_empty.ensures ∙ c.if-is_empty.false)).1
