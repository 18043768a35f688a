-- A member is bad, or none is and one is past the bound, or all are good.
use Rattle.std.proofs.Common.{refl, sym, ◌∙◌}
use Rattle.corner_set.specs.declared.pick.Pick.TheVariants.{Min, Typ, Max}
use Rattle.spef_nets.proofs.AmountLemmas.{past_among}
use Rattle.spef_nets.proofs.amounts.all_of.Goals as goal

pub returns-in_default : goal.returns-in_default
returns-in_default c = λ unit most triple min typ max. (
  tt,
  past_among unit most triple triple Min c.args.min c.args.typ c.args.max c.args.min c.in_default.field-0 refl min typ max
      (sym c.is_bad.ensures ∙ c.if-is_bad.false) (sym c.is_bad-else-is_bad.ensures ∙ c.if-is_bad-2.false) (sym c.is_bad-else-is_bad-2.ensures ∙ c.if-is_bad-3.false)
      c.in_default.is min.1,
)

pub returns-in_default-typ : goal.returns-in_default-typ
returns-in_default-typ c = λ unit most triple min typ max. (
  tt,
  past_among unit most triple triple Typ c.args.min c.args.typ c.args.max c.args.typ c.in_default-typ.field-0 refl min typ max
      (sym c.is_bad.ensures ∙ c.if-is_bad.false) (sym c.is_bad-else-is_bad.ensures ∙ c.if-is_bad-2.false) (sym c.is_bad-else-is_bad-2.ensures ∙ c.if-is_bad-3.false)
      c.in_default-typ.is typ.1,
)

pub returns-in_default-max : goal.returns-in_default-max
returns-in_default-max c = λ unit most triple min typ max. (
  tt,
  past_among unit most triple triple Max c.args.min c.args.typ c.args.max c.args.max c.in_default-max.field-0 refl min typ max
      (sym c.is_bad.ensures ∙ c.if-is_bad.false) (sym c.is_bad-else-is_bad.ensures ∙ c.if-is_bad-2.false) (sym c.is_bad-else-is_bad-2.ensures ∙ c.if-is_bad-3.false)
      c.in_default-max.is max.1,
)
