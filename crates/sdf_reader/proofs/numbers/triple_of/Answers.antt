-- Three members that are left out make no value.
use Rattle.std.proofs.Common.{sym, ◌∙◌}
use Rattle.sdf_reader.proofs.ValueLemmas.{no_triple}
use Rattle.sdf_reader.proofs.numbers.triple_of.Goals as goal

pub returns-else-has_number-clause-none : goal.returns-else-has_number-clause-none
returns-else-has_number-clause-none c = λ value are.
    no_triple c.args.power c.args.min.now c.args.typ.now c.args.max.now c.in_ok-member_of.field-0 c.in_ok-member_of-2.field-0 c.in_ok-member_of-3.field-0 value
    c.in_ok-member_of.ensures.some c.in_ok-member_of-2.ensures.some c.in_ok-member_of-3.ensures.some (sym c.has_number.ensures ∙ c.if-has_number.false) are
