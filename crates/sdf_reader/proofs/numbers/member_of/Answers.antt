-- Nothing, or a literal.
use Rattle.std.proofs.Common.{sym, ◌∙◌}
use Rattle.sdf_reader.specs.Numbers.{member}
use Rattle.sdf_reader.proofs.ValueLemmas.{empty_text, some_text, empty_member, member_none}
use Rattle.sdf_reader.proofs.numbers.member_of.Goals as goal

pub returns-then-is_empty-clause-some : goal.returns-then-is_empty-clause-some
returns-then-is_empty-clause-some c = empty_member c.args.power c.args.text.now (empty_text c.args.text.now (sym c.is_empty.ensures ∙ c.if-is_empty.true))

pub returns-in-Some-clause-some : goal.returns-in-Some-clause-some
returns-in-Some-clause-some c = member c.in-Some.ensures.some

pub returns-in-None-clause-none : goal.returns-in-None-clause-none
returns-in-None-clause-none c = member_none c.args.power c.args.text.now (some_text c.args.text.now (sym c.is_empty.ensures ∙ c.if-is_empty.false)) c.in-None.ensures.none
