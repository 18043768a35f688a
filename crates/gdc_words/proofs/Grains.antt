-- The grains of a value: when it reads as some, and when as none.
use Rattle.std.proofs.Common.{◌≡◌, ℕ, ◌^◌, List, ℤ, pos, ◌+ℤ◌, ◌*ℤ◌, Option, None, Some, sym, ap, ◌∙◌, arith, subst, refl}
use Rattle.std.proofs.lemmas.Int.{ints}
use Rattle.std.specs.Prelude.{IsTrue, is_some, IfSome, IfNone}
use Rattle.delay_units.specs.Amounts.{IsAmountOf, within}
use Rattle.delay_units.specs.Reading.{IsRoundedPower}
use Rattle.delay_units.specs.declared.amounts.Amount.TheVariants.{Within}
use Rattle.delay_units.specs.declared.numbers.Unit.{Unit}
use Rattle.gdc_words.specs.Decimals.{IsGrains}

times_one : (n : ℤ) → n *ℤ pos 1 ≡ n
times_one n = omega (arith, ints)

-- a unit of a million grains
pub record IsMillion (unit : Unit) : Type 0 where
  pub mantissa : unit.mantissa ≡ 1
  pub exponent : unit.exponent ≡ pos 6

digits_in : (digits : ℤ) (unit : Unit) → IsMillion unit → digits *ℤ pos unit.mantissa ≡ digits
digits_in digits unit is = ap (λ m. digits *ℤ pos m) is.mantissa ∙ times_one digits

-- an amount in that unit is so many grains
pub grains_within : (value : List ℕ) (unit : Unit) (grains : ℕ) → IsMillion unit → IsAmountOf unit (10 ^ 12) value (Within grains) → IsGrains value grains
grains_within value unit grains is (within reads few) =
    let number = reads.number in
    record {
      number = number;
      reads = reads.reads;
      rounds = subst (λ (n : ℤ). IsRoundedPower n (number.exponent +ℤ pos 6) (pos grains)) (digits_in number.digits unit is)
          (subst (λ (p : ℤ). IsRoundedPower (number.digits *ℤ pos unit.mantissa) (number.exponent +ℤ p) (pos grains)) is.exponent reads.rounded);
      within = few;
    }

-- and so many grains are an amount
pub grains_are : (value : List ℕ) (unit : Unit) (grains : ℕ) → IsMillion unit → IsGrains value grains → IsAmountOf unit (10 ^ 12) value (Within grains)
grains_are value unit grains is g =
    let number = g.number in
    within (record {
      number = number;
      reads = g.reads;
      rounded = subst (λ (p : ℤ). IsRoundedPower (number.digits *ℤ pos unit.mantissa) (number.exponent +ℤ p) (pos grains)) (sym is.exponent)
          (subst (λ (n : ℤ). IsRoundedPower n (number.exponent +ℤ pos 6) (pos grains)) (sym (digits_in number.digits unit is)) g.rounds);
    }) g.within

-- a value is a decimal exactly where grains are found
pub some_grains : (value : List ℕ) (found : Option ℕ) → IfSome found (IsGrains value) → IfNone found ((grains : ℕ) → ¬ IsGrains value grains) → IsTrue (is_some found) → (grains : ℕ) × IsGrains value grains
some_grains value None some none e = cc
some_grains value (Some grains) some none e = (grains, some)

pub grains_found : (value : List ℕ) (found : Option ℕ) → IfSome found (IsGrains value) → IfNone found ((grains : ℕ) → ¬ IsGrains value grains) → (grains : ℕ) × IsGrains value grains → IsTrue (is_some found)
grains_found value None some none is = absurd (none is.0 is.1)
grains_found value (Some grains) some none is = refl
