-- An amount within the bound is the grains, and no other amount has any.
use Rattle.std.proofs.Common.{sym}
use Rattle.gdc_words.proofs.Grains.{grains_within, grains_are}
use Rattle.gdc_words.proofs.decimals.grains_of.Goals as goal

pub returns-in-Within-clause-some : goal.returns-in-Within-clause-some
returns-in-Within-clause-some c =
    grains_within c.args.value.now c.unit.result c.in-Within.grains (record { mantissa = c.unit.ensures.mantissa; exponent = c.unit.ensures.exponent }) c.in-Within.ensures.amount

pub returns-in_default-clause-none : goal.returns-in_default-clause-none
returns-in_default-clause-none c = λ grains is.
    c.in_default.not-Within grains (sym (c.read_amount.ensures.only _ (grains_are c.args.value.now c.unit.result grains (record { mantissa = c.unit.ensures.mantissa; exponent = c.unit.ensures.exponent }) is)))
