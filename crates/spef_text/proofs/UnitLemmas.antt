-- What the unit of a decimal says of its literal and word.
use Rattle.std.proofs.Common.{◌≡◌, ℕ, ◌≤◌, List, sym, ap, ◌∙◌, arith, subst, ℤ, pos, ◌+ℤ◌, ◌≤ℤ◌, unsigned_abs, Option, Some, None, IfSome, IfNone, IsSome, ◌↔◌, true≢false}
use Rattle.std.proofs.lemmas.Int.{ints}
use Rattle.delay_units.specs.Literal.{IsNumber}
use Rattle.delay_units.specs.declared.numbers.Decimal.{Decimal}
use Rattle.delay_units.specs.declared.numbers.Unit.{Unit}
use Rattle.spef_text.specs.declared.units.Quantity.{Quantity}
use Rattle.spef_text.specs.Units.{power_of, IsUnit, IsNoUnit}
use Rattle.delay_units.proofs.OneDecimal.{one_decimal}

pub unit_from : (quantity : Quantity) (number word : List ℕ) (power : ℤ) (value : Decimal) (r : Option Unit) → power_of quantity word ≡ Some power → IsNumber number value
    → IfSome r (λ u. pos u.mantissa ≡ value.digits) → IfSome r (λ u. u.exponent ≡ value.exponent +ℤ power) → IfSome r (IsUnit quantity number word)
unit_from quantity number word power value None known reads m e = search
unit_from quantity number word power value (Some u) known reads m e = record { power = power; known = known; value = value; reads = reads; mantissa = m; exponent = e }

same_power : (x : Option ℤ) (p q : ℤ) → x ≡ Some p → x ≡ Some q → p ≡ q
same_power x p q a b = cc

-- a unit of the text is one of the value that was read, and of the power
fits : (quantity : Quantity) (number word : List ℕ) (power : ℤ) (value : Decimal) (u : Unit) → power_of quantity word ≡ Some power → IsNumber number value → IsUnit quantity number word u
    → (pos 1 ≤ℤ value.digits) × (value.digits ≤ℤ pos 9999999) × (unsigned_abs (value.exponent +ℤ power) ≤ 99)
fits quantity number word power value u known reads is =
    let one : (value.digits ≡ is.value.digits) × (value.exponent ≡ is.value.exponent) = one_decimal number value is.value reads is.reads in
    let digits : value.digits ≡ pos u.mantissa = one.0 ∙ sym is.mantissa in
    let exponent : value.exponent +ℤ power ≡ u.exponent = ap (λ x. x +ℤ power) one.1 ∙ ap (λ x. is.value.exponent +ℤ x) (same_power (power_of quantity word) power is.power known is.known) ∙ sym is.exponent in
    (low value.digits u.mantissa digits u.positive, high value.digits u.mantissa digits u.seven_digits, subst (λ (x : ℤ). unsigned_abs x ≤ 99) (sym exponent) u.exponent_fits)
  where
    low : (z : ℤ) (m : ℕ) → z ≡ pos m → 1 ≤ m → pos 1 ≤ℤ z
    low z m e h = omega (arith, ints, e, h)

    high : (z : ℤ) (m : ℕ) → z ≡ pos m → m ≤ 9999999 → z ≤ℤ pos 9999999
    high z m e h = omega (arith, ints, e, h)

pub no_unit_from : (quantity : Quantity) (number word : List ℕ) (power : ℤ) (value : Decimal) (r : Option Unit) → power_of quantity word ≡ Some power → IsNumber number value
    → (IsSome r ↔ ((pos 1 ≤ℤ value.digits) × (value.digits ≤ℤ pos 9999999) × (unsigned_abs (value.exponent +ℤ power) ≤ 99))) → IfNone r (IsNoUnit quantity number word)
no_unit_from quantity number word power value None known reads when = λ u is. absurd (true≢false (sym (when.1 (fits quantity number word power value u known reads is))))
no_unit_from quantity number word power value (Some u) known reads when = search
