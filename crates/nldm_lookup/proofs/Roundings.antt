-- Roundings of a quotient by a positive number: how large they are, and that they stay where both numbers are multiplied.
use Rattle.std.proofs.Common.{◌≡◌, ℕ, zero, suc, ◌+◌, ◌*◌, ◌<◌, ◌≤◌, ◌∙◌, ap, sym, ℤ, pos, negsuc, ◌+ℤ◌, ◌-ℤ◌, ◌*ℤ◌, ◌≤ℤ◌, ◌<ℤ◌, unsigned_abs, arith}
use Rattle.std.proofs.lemmas.Int.{ints, unsigned_abs-mul}
use Rattle.std.proofs.Math.IntN.{negsuc-*ℤ-pos, *ℤ-zero}
use Rattle.std.proofs.Math.Nat.{mul-le-mul_right, lt_of_not-le}
use Rattle.delay_units.specs.Rounding.{IsRounding}
use Rattle.nldm_lookup.proofs.Scaling.{scale_suc, sum_scale, scale_times}

twice : (v : ℤ) → pos 2 *ℤ v ≡ v +ℤ v
twice v = omega (arith, ints)

one_less : (d : ℕ) → negsuc 0 *ℤ pos d ≡ pos 0 -ℤ pos d
one_less d =
    let e : 1 * d ≡ d = grind arith in
    let f = negsuc-*ℤ-pos 0 d in
    omega (arith, ints, e, f)

one_more : (d : ℕ) → pos 1 *ℤ pos d ≡ pos d
one_more d = ap pos (grind arith)

-- the two bounds of a rounding, over the product of the value and the divisor
pub least_of : (v : ℤ) (d : ℕ) → (((pos 2 *ℤ v) -ℤ pos 1) *ℤ pos d) ≡ (((v *ℤ pos d) +ℤ (v *ℤ pos d)) -ℤ pos d)
least_of v d =
    let e : ((pos 2 *ℤ v) -ℤ pos 1) *ℤ pos d ≡ ((v +ℤ v) +ℤ negsuc 0) *ℤ pos d = ap (λ x. x *ℤ pos d) (omega (arith, ints, twice v)) in
    let f = sum_scale (v +ℤ v) (negsuc 0) (pos d) in
    let h = sum_scale v v (pos d) in
    omega (arith, ints, e, f, h, one_less d)

pub most_of : (v : ℤ) (d : ℕ) → (((pos 2 *ℤ v) +ℤ pos 1) *ℤ pos d) ≡ (((v *ℤ pos d) +ℤ (v *ℤ pos d)) +ℤ pos d)
most_of v d =
    let e : ((pos 2 *ℤ v) +ℤ pos 1) *ℤ pos d ≡ ((v +ℤ v) +ℤ pos 1) *ℤ pos d = ap (λ x. x *ℤ pos d) (omega (arith, ints, twice v)) in
    let f = sum_scale (v +ℤ v) (pos 1) (pos d) in
    let h = sum_scale v v (pos d) in
    omega (arith, ints, e, f, h, one_more d)

past : (size d bound : ℕ) → 1 ≤ d → size * d + size * d ≤ bound * d + bound * d + d → suc bound ≤ size → ⊥
past size d bound some near above =
    let grows : suc bound * d ≤ size * d = mul-le-mul_right d above in
    let next : suc bound * d ≡ bound * d + d = grind arith in
    absurd (omega (arith, grows, next, near, some))

not_above : (size d bound : ℕ) → 1 ≤ d → size * d + size * d ≤ bound * d + bound * d + d → size ≤ bound
not_above size d bound some near =
    let below : size < suc bound = lt_of_not-le (λ above. past size d bound some near above) in
    omega (arith, below)

-- a quotient of at most so much in size has a rounding of at most so much
pub rounding_small : (n v : ℤ) (d bound : ℕ) → 1 ≤ d → IsRounding n (pos d) v → unsigned_abs n ≤ bound * d → unsigned_abs v ≤ bound
rounding_small n v d bound some rounding small =
    let size : unsigned_abs (v *ℤ pos d) ≡ unsigned_abs v * d = unsigned_abs-mul v (pos d) in
    let low = rounding.least in
    let high = rounding.most in
    let near : unsigned_abs (v *ℤ pos d) + unsigned_abs (v *ℤ pos d) ≤ bound * d + bound * d + d = omega (arith, ints, twice n, least_of v d, most_of v d, low, high, small) in
    not_above (unsigned_abs v) d bound some (omega (arith, size, near))

-- both sides of an order by a number
scale_le : (a b : ℤ) (k : ℕ) → a ≤ℤ b → (a *ℤ pos k) ≤ℤ (b *ℤ pos k)
scale_le a b zero le = omega (arith, ints, *ℤ-zero a, *ℤ-zero b)
scale_le a b (suc k) le = omega (arith, ints, scale_suc a k, scale_suc b k, scale_le a b k le, le)

scale_lt : (a b : ℤ) (k : ℕ) → a <ℤ b → (a *ℤ pos (suc k)) <ℤ (b *ℤ pos (suc k))
scale_lt a b zero lt = omega (arith, ints, scale_suc a 0, scale_suc b 0, *ℤ-zero a, *ℤ-zero b, lt)
scale_lt a b (suc k) lt = omega (arith, ints, scale_suc a (suc k), scale_suc b (suc k), scale_lt a b k lt, lt)

double_scale : (n : ℤ) (k : ℕ) → (pos 2 *ℤ n) *ℤ pos k ≡ pos 2 *ℤ (n *ℤ pos k)
double_scale n k = ap (λ x. x *ℤ pos k) (twice n) ∙ sum_scale n n (pos k) ∙ sym (twice (n *ℤ pos k))

scaled_by_natural : (n v d : ℤ) (k : ℕ) → IsRounding n d v → IsRounding (n *ℤ pos (suc k)) (d *ℤ pos (suc k)) v
scaled_by_natural n v d k rounding =
    let low = scale_le _ _ (suc k) rounding.least in
    let high = scale_lt _ _ k rounding.most in
    let one = scale_times ((pos 2 *ℤ v) -ℤ pos 1) d (pos (suc k)) in
    let other = scale_times ((pos 2 *ℤ v) +ℤ pos 1) d (pos (suc k)) in
    let double = double_scale n (suc k) in
    record { least = omega (arith, ints, low, one, double); most = omega (arith, ints, high, other, double) }

-- both numbers by a positive one
pub rounding_scaled : (n v d k : ℤ) → pos 1 ≤ℤ k → IsRounding n d v → IsRounding (n *ℤ k) (d *ℤ k) v
rounding_scaled n v d (pos zero) some rounding = absurd (omega (arith, ints, some))
rounding_scaled n v d (pos (suc k)) some rounding = scaled_by_natural n v d k rounding
rounding_scaled n v d (negsuc k) some rounding = absurd (omega (arith, ints, some))
