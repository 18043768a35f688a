-- Units that are one.
use Rattle.std.proofs.Common.{◌≡◌, ℕ, ◌≤◌, ℤ, unsigned_abs, ap, ◌∙◌, subst}
use Rattle.std.proofs.Math.Bridge.{le_prop}
use Rattle.delay_units.specs.declared.numbers.Unit.{Unit}

-- units are one where their numbers are
pub unit_same : (u w : Unit) → u.mantissa ≡ w.mantissa → u.exponent ≡ w.exponent → u ≡ w
unit_same u w e f =
    subst (λ (m : ℕ). (p : 1 ≤ m) (s : m ≤ 9999999) (x : unsigned_abs w.exponent ≤ 99) → u ≡ record { mantissa = m; exponent = w.exponent; positive = p; seven_digits = s; exponent_fits = x }) e
    (subst (λ (z : ℤ). (p : 1 ≤ u.mantissa) (s : u.mantissa ≤ 9999999) (x : unsigned_abs z ≤ 99) → u ≡ record { mantissa = u.mantissa; exponent = z; positive = p; seven_digits = s; exponent_fits = x }) f
    (λ p s x.
    ap (λ (q : 1 ≤ u.mantissa). let v : Unit = record { mantissa = u.mantissa; exponent = u.exponent; positive = q; seven_digits = u.seven_digits; exponent_fits = u.exponent_fits } in v) (le_prop u.positive p)
    ∙ ap (λ (q : u.mantissa ≤ 9999999). let v : Unit = record { mantissa = u.mantissa; exponent = u.exponent; positive = p; seven_digits = q; exponent_fits = u.exponent_fits } in v) (le_prop u.seven_digits s)
    ∙ ap (λ (q : unsigned_abs u.exponent ≤ 99). let v : Unit = record { mantissa = u.mantissa; exponent = u.exponent; positive = p; seven_digits = s; exponent_fits = q } in v) (le_prop u.exponent_fits x)))
    w.positive w.seven_digits w.exponent_fits
