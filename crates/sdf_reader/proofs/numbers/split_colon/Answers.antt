-- The place that was found is the first colon.
use Rattle.std.proofs.Common.{◌∷◌, ◌++◌, drop, sym, ap, ◌∙◌, subst, arith, eq-eqb}
use Rattle.std.proofs.lemmas.Bool.{eqb-true}
use Rattle.sdf_reader.specs.Numbers.{HasNoColon}
use Rattle.sdf_reader.proofs.ValueLemmas.{no_colon, no_colon_before, cut_there}
use Rattle.sdf_reader.proofs.numbers.split_colon.Goals as goal

pub returns-in-None-clause-none : goal.returns-in-None-clause-none
returns-in-None-clause-none c = no_colon c.args.text.now (λ i lt e. c.in-None.ensures i (omega arith) lt (eq-eqb _ 58 e))

pub returns-in-Some-clause-some : goal.returns-in-Some-clause-some
returns-in-Some-clause-some c =
    let none = c.in-Some.ensures.0 in
    let below = none.high in (
      cut_there c.args.text.now c.in-Some.place below (eqb-true _ 58 c.in-Some.ensures.1)
          ∙ ap (λ l. l ++ 58 ∷ drop 1 (drop c.in-Some.place c.args.text.now)) (sym c.split_at.ensures.front)
          ∙ ap (λ l. c.split_at.result.0.now ++ 58 ∷ l) (sym (c.split_at-in-Some.ensures.back ∙ ap (drop 1) c.split_at.ensures.back)),
      subst HasNoColon (sym c.split_at.ensures.front) (no_colon_before c.args.text.now c.in-Some.place (λ i lt within e. none.before i (omega arith) lt (eq-eqb _ 58 e))),
    )
