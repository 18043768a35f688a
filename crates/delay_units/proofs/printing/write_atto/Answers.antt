use Rattle.std.proofs.Common.{◌/◌, ◌≤◌, length, decimal, refl, arith, rules, FitsSigned}
use Rattle.std.proofs.lemmas.Int.{ints, to_z-of_z}
use Rattle.std.proofs.lemmas.Fmt.{length-decimal-le}
use Rattle.std.specs.Int.{w64}
use Rattle.delay_units.proofs.PrintingLemmas.{text_of_pieces, last_six, joined}
use Rattle.delay_units.proofs.printing.write_atto.Goals as goal

pub push_three_digits-requires-2-clause-room : goal.push_three_digits-requires-2-clause-room
push_three_digits-requires-2-clause-room c =
    let d : length (decimal (c.unsigned_abs-size.result / 1000000)) ≤ 13 =
    length-decimal-le 13 (c.unsigned_abs-size.result / 1000000) (omega arith) (omega (arith, c.unsigned_abs-size.ensures.bound)) (omega (arith, c.unsigned_abs-size.ensures.bound)) in
    omega (arith, c.start.ensures.length, d)

pub returns : goal.returns
returns c =
    let f : FitsSigned w64 c.args.value.0 = search rules in
    let n = simp to_z-of_z at c.unsigned_abs-size.ensures.value in
    text_of_pieces 6 c.args.value.0 _ c.unsigned_abs-size.result _ _ _ _ n (λ e. omega (arith, ints, e)) (λ e. omega (arith, ints, e))
    refl c.start.ensures.text (last_six c.unsigned_abs-size.result)
    (joined _ _ _ _ _ c.push_three_digits-2.ensures.text c.push_three_digits.ensures.text)
