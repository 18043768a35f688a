-- The time of a literal is its reading in a unit of ten to a power femtoseconds.
use Rattle.std.proofs.Common.{◌≡◌, ℕ, ◌^◌, ◌≤◌, List, ℤ, pos, ◌+ℤ◌, ◌*ℤ◌, unsigned_abs, sym, ap, ◌∙◌, arith, subst}
use Rattle.std.proofs.lemmas.Int.{ints}
use Rattle.delay_units.specs.Reading.{IsRoundedPower, IsReading, ReadsAs}
use Rattle.delay_units.specs.SignedAmounts.{IsSignedAmountOf, within}
use Rattle.delay_units.specs.declared.numbers.Decimal.{Decimal}
use Rattle.delay_units.specs.declared.numbers.Unit.{Unit}
use Rattle.delay_units.specs.declared.quantities.Femto.{Femto}
use Rattle.delay_units.specs.declared.signed_amounts.SignedAmount.TheVariants.{Within}
use Rattle.sdf_reader.specs.Numbers.{IsTime}

times_one : (n : ℤ) → n *ℤ pos 1 ≡ n
times_one n = omega (arith, ints)

-- a reading in a unit of ten to a power is the rounded number times that
unit_rounds : (number : Decimal) (unit : Unit) (power : ℕ) (v : ℤ) → unit.mantissa ≡ 1 → unit.exponent ≡ pos power → IsReading number unit v → IsRoundedPower number.digits (number.exponent +ℤ pos power) v
unit_rounds number unit power v one is reads =
    let digits : number.digits *ℤ pos unit.mantissa ≡ number.digits = ap (λ m. number.digits *ℤ pos m) one ∙ times_one number.digits in
    subst (λ (n : ℤ). IsRoundedPower n (number.exponent +ℤ pos power) v) digits
    (subst (λ (e : ℤ). IsRoundedPower (number.digits *ℤ pos unit.mantissa) (number.exponent +ℤ e) v) is reads)

rounds_unit : (number : Decimal) (unit : Unit) (power : ℕ) (v : ℤ) → unit.mantissa ≡ 1 → unit.exponent ≡ pos power → IsRoundedPower number.digits (number.exponent +ℤ pos power) v → IsReading number unit v
rounds_unit number unit power v one is rounds =
    let digits : number.digits *ℤ pos unit.mantissa ≡ number.digits = ap (λ m. number.digits *ℤ pos m) one ∙ times_one number.digits in
    subst (λ (e : ℤ). IsRoundedPower (number.digits *ℤ pos unit.mantissa) (number.exponent +ℤ e) v) (sym is)
    (subst (λ (n : ℤ). IsRoundedPower n (number.exponent +ℤ pos power) v) (sym digits) rounds)

time_made : (power : ℕ) (text : List ℕ) (unit : Unit) (time : Femto) → unit.mantissa ≡ 1 → unit.exponent ≡ pos power → ReadsAs unit text time.0 → unsigned_abs time.0 ≤ 10 ^ 27 → IsTime power text time
time_made power text unit time one is reads few =
    record { number = reads.number; reads = reads.reads; rounds = unit_rounds reads.number unit power time.0 one is reads.rounded; within = few }

-- an amount within the limit is the time
pub time_within : (power : ℕ) (text : List ℕ) (unit : Unit) (v : ℤ) (time : Femto) → time.0 ≡ v → unit.mantissa ≡ 1 → unit.exponent ≡ pos power
    → IsSignedAmountOf unit (10 ^ 27) text (Within v) → IsTime power text time
time_within power text unit v time same one is (within reads few) =
    time_made power text unit time one is (subst (ReadsAs unit text) (sym same) reads) (subst (λ (x : ℤ). unsigned_abs x ≤ 10 ^ 27) (sym same) few)

-- and the time is an amount within it
pub within_of_time : (power : ℕ) (text : List ℕ) (unit : Unit) (time : Femto) → unit.mantissa ≡ 1 → unit.exponent ≡ pos power → IsTime power text time → IsSignedAmountOf unit (10 ^ 27) text (Within time.0)
within_of_time power text unit time one is time_is =
    within (record { number = time_is.number; reads = time_is.reads; rounded = rounds_unit time_is.number unit power time.0 one is time_is.rounds }) time_is.within
