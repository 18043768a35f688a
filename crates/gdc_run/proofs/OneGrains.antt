-- A decimal of the command line has one rounded reading.
use Rattle.std.proofs.Common.{◌≡◌, ℕ, List, ℤ, pos, ◌+ℤ◌, subst, arith}
use Rattle.std.proofs.lemmas.Int.{ints}
use Rattle.delay_units.specs.Reading.{IsRoundedPower}
use Rattle.delay_units.proofs.OneDecimal.{one_decimal}
use Rattle.delay_units.proofs.ReadingLemmas.{one_power}
use Rattle.gdc_words.specs.Decimals.{IsGrains}

pub one_grains : (value : List ℕ) (one other : ℕ) → IsGrains value one → IsGrains value other → one ≡ other
one_grains value one other r s =
    let number = one_decimal value r.number s.number r.reads s.reads in
    let moved : IsRoundedPower s.number.digits (s.number.exponent +ℤ pos 6) (pos one) =
    subst (λ (d : ℤ). IsRoundedPower d (s.number.exponent +ℤ pos 6) (pos one)) number.0
    (subst (λ (e : ℤ). IsRoundedPower r.number.digits (e +ℤ pos 6) (pos one)) number.1 r.rounds) in
    let same : pos one ≡ pos other = one_power s.number.digits (s.number.exponent +ℤ pos 6) (pos one) (pos other) moved s.rounds in
    omega (arith, ints, same)
