-- The amount within the limit is the time, and where there is none, there is no time.
use Rattle.std.proofs.Common.{rules, sym}
use Rattle.std.specs.Int.{w128}
use Rattle.std.proofs.lemmas.Int.{to_z-of_z}
use mir.Val.{SFits}
use Rattle.sdf_reader.proofs.NumberLemmas.{time_within, within_of_time}
use Rattle.sdf_reader.proofs.numbers.time_of.Goals as goal

pub returns-in-Within-clause-some : goal.returns-in-Within-clause-some
returns-in-Within-clause-some c =
    let small : SFits w128 c.in-Within.value = search rules in
    time_within c.args.power c.args.literal.now c.unit_of.result c.in-Within.value _ (to_z-of_z w128 c.in-Within.value small) c.unit_of.ensures.mantissa c.unit_of.ensures.exponent c.in-Within.ensures.amount

pub returns-in_default-clause-none : goal.returns-in_default-clause-none
returns-in_default-clause-none c = λ time is.
    c.in_default.not-Within time.0 (sym (c.read_signed_amount.ensures.only _ (within_of_time c.args.power c.args.literal.now c.unit_of.result time c.unit_of.ensures.mantissa c.unit_of.ensures.exponent is)))
