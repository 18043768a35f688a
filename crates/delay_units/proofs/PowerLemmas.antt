-- Powers of ten, and what a product with one reads.
use Rattle.std.proofs.Common.{◌≡◌, ℕ, suc, ◌*◌, ◌^◌, ◌<◌, ◌≤◌, ℤ, pos, negsuc, ◌*ℤ◌, ◌≤ℤ◌, ◌<ℤ◌, unsigned_abs, sym, ap, ◌∙◌, refl, arith, Option, Some, None, IfSome, IfNone, SomeIff, FitsSigned, ⊎_elim}
use Rattle.std.specs.Int.{w128, cast_signed, cast_unsigned}
use Rattle.std.proofs.lemmas.Bool.{cases_lt}
use Rattle.std.proofs.Math.Nat.{pow-le-pow_right, pow-suc, zero-lt-suc, mul-le-mul_left}
use Rattle.std.proofs.lemmas.Int.{ints, fits_signed_from_abs, unsigned_abs-mul, to_z-of_z}
use lib.IntN.{zero-*ℤ}
use Rattle.delay_units.specs.Rounding.{IsRounding}
use Rattle.delay_units.specs.Reading.{IsRoundedPower}
use Rattle.delay_units.proofs.RoundingLemmas.{rounding_from}

pub ten_le : (i j : ℕ) → i ≤ j → 10 ^ i ≤ 10 ^ j
ten_le i j h = pow-le-pow_right (zero-lt-suc 9) h

pub ten_is_positive : (k : ℕ) → 1 ≤ 10 ^ k
ten_is_positive k = ten_le 0 k (omega arith)

pub ten_suc : (k : ℕ) → 10 ^ suc k ≡ 10 ^ k * 10
ten_suc k = pow-suc 10 k

-- the rounded power at a negative one and at another
pub power_down : (n power v : ℤ) → power <ℤ pos 0 → IsRounding n (pos (10 ^ unsigned_abs power)) v → IsRoundedPower n power v
power_down n (negsuc j) v h r = r
power_down n (pos j) v h r = absurd (omega (arith, ints, h))

by_one : (v : ℤ) → v *ℤ pos 1 ≡ v
by_one v = omega (arith, ints)

whole_is_rounded : (n v : ℤ) → v ≡ n → IsRounding n (pos 1) v
whole_is_rounded n v e =
    rounding_from n (pos 1) v v (sym (by_one v)) (omega (arith, ints, e)) (omega (arith, ints, e))

pub power_up : (n k v : ℤ) → pos 0 ≤ℤ k → v ≡ n *ℤ pos (10 ^ unsigned_abs k) → IsRoundedPower n k v
power_up n (pos j) v h e = whole_is_rounded (n *ℤ pos (10 ^ j)) v e
power_up n (negsuc j) v h e = absurd (omega (arith, ints, h))

-- a number below 10^37 in size, by a power past 10^37, is rounded to zero
pub vanishes : (n : ℤ) (k : ℕ) → unsigned_abs n < 10 ^ 37 → 38 ≤ k → IsRounding n (pos (10 ^ k)) (pos 0)
vanishes n k small h =
    let l : 10 ^ 38 ≤ 10 ^ k = ten_le 38 k h in
    rounding_from n (pos (10 ^ k)) (pos 0) (pos 0) (sym (zero-*ℤ (pos (10 ^ k)))) (omega (arith, ints, l, small)) (omega (arith, ints, l, small))

-- a checked product with a power of ten
pub product_is_read : (r : Option ℤ) (n k a b : ℤ) → a ≡ n → b ≡ pos (10 ^ unsigned_abs k) → pos 0 ≤ℤ k → SomeIff r (FitsSigned w128 (a *ℤ b)) (a *ℤ b) → IfSome r (λ v. IsRoundedPower n k v)
product_is_read None n k a b ea eb h s = tt
product_is_read (Some v) n k a b ea eb h s = power_up n k v h (s.1 ∙ ap (λ x. x *ℤ b) ea ∙ ap (λ x. n *ℤ x) eb)

pub product_is_past : (r : Option ℤ) (n k a b : ℤ) → a ≡ n → b ≡ pos (10 ^ unsigned_abs k) → pos 0 ≤ℤ k → SomeIff r (FitsSigned w128 (a *ℤ b)) (a *ℤ b) → IfNone r ((x : ℤ) × IsRoundedPower n k x × (pos (10 ^ 36) <ℤ pos (unsigned_abs x)))
product_is_past (Some v) n k a b ea eb h s = tt
product_is_past None n k a b ea eb h s =
    let e : a *ℤ b ≡ n *ℤ pos (10 ^ unsigned_abs k) = ap (λ x. x *ℤ b) ea ∙ ap (λ x. n *ℤ x) eb in
    let past : 10 ^ 36 < unsigned_abs (a *ℤ b) =
    ⊎_elim (λ l. l) (λ g. absurd (s (fits_signed_from_abs w128 (a *ℤ b) (omega (arith, g))))) (cases_lt (10 ^ 36) (unsigned_abs (a *ℤ b))) in
    (a *ℤ b, power_up n k (a *ℤ b) h e, omega (arith, ints, past))

factor_le : (a t : ℕ) → 1 ≤ a → t ≤ a * t
factor_le a t h = grind arith

-- a product with a power past 10^36 is past it, but for zero
pub large_is_past : (n k : ℤ) → 1 ≤ unsigned_abs n → pos 37 ≤ℤ k → (x : ℤ) × IsRoundedPower n k x × (pos (10 ^ 36) <ℤ pos (unsigned_abs x))
large_is_past n k some h =
    let l : 10 ^ 37 ≤ 10 ^ unsigned_abs k = ten_le 37 (unsigned_abs k) (omega (arith, ints, h)) in
    let m = unsigned_abs-mul n (pos (10 ^ unsigned_abs k)) in
    let g = factor_le (unsigned_abs n) (10 ^ unsigned_abs k) some in
    (n *ℤ pos (10 ^ unsigned_abs k), power_up n k (n *ℤ pos (10 ^ unsigned_abs k)) (omega (arith, ints, h)) refl, omega (arith, ints, l, m, g))

pub zero_is_read : (n k : ℤ) → n ≡ pos 0 → pos 0 ≤ℤ k → IsRoundedPower n k (pos 0)
zero_is_read n k e h = power_up n k (pos 0) h (sym (ap (λ x. x *ℤ pos (10 ^ unsigned_abs k)) e ∙ zero-*ℤ (pos (10 ^ unsigned_abs k))))

-- the product of digits and a mantissa is below 10^37 in size
pub product_is_small : (m : ℤ) (u : ℕ) → unsigned_abs m < 10 ^ 30 → u ≤ 9999999 → unsigned_abs (m *ℤ pos u) < 10 ^ 37
product_is_small m u few seven =
    let e = unsigned_abs-mul m (pos u) in
    let l : unsigned_abs m * u ≤ unsigned_abs m * 9999999 = mul-le-mul_left (unsigned_abs m) seven in
    omega (arith, e, l)

-- the product as the code makes it
pub product_bits : (m : ℤ) (u : ℕ) → unsigned_abs m < 10 ^ 30 → u ≤ 9999999 → cast_signed w128 (cast_unsigned w128 (cast_signed w128 (cast_unsigned w128 m) *ℤ cast_signed w128 u)) ≡ m *ℤ pos u
product_bits m u few seven =
    let f : FitsSigned w128 m = fits_signed_from_abs w128 m (omega (arith, few)) in
    let a = to_z-of_z w128 m f in
    let b : cast_signed w128 u ≡ pos u = omega (arith, ints, seven) in
    let g : FitsSigned w128 (m *ℤ pos u) = fits_signed_from_abs w128 (m *ℤ pos u) (omega (arith, product_is_small m u few seven)) in
    ap (λ x. cast_signed w128 (cast_unsigned w128 x)) (ap (λ x. x *ℤ cast_signed w128 u) a ∙ ap (λ x. m *ℤ x) b) ∙ to_z-of_z w128 (m *ℤ pos u) g
