use Rattle.std.proofs.Common.{◌∙◌, ap, arith, rules, FitsSigned}
use Rattle.std.proofs.lemmas.Int.{ints, to_z-of_z}
use Rattle.std.specs.Int.{w128}
use Rattle.delay_units.specs.Printing.{last_digits}
use Rattle.delay_units.proofs.PrintingLemmas.{text_of_pieces, last_three}
use Rattle.delay_units.proofs.printing.write_femto.Goals as goal

pub returns : goal.returns
returns c =
    let f : FitsSigned w128 c.args.value.0 = search rules in
    let n = simp to_z-of_z at c.unsigned_abs.ensures.value in
    text_of_pieces 3 c.args.value.0 _ c.unsigned_abs.result _ _ _ _ n (λ e. omega (arith, ints, e)) (λ e. omega (arith, ints, e))
    c.thousands-whole.ensures.quotient c.start.ensures.text
    (ap (last_digits 3) c.thousands-whole.ensures.rest ∙ last_three c.unsigned_abs.result)
    c.push_three_digits.ensures.text
