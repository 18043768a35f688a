-- Integers times integers: sums, products and sizes.
use Rattle.std.proofs.Common.{◌≡◌, ℕ, zero, suc, ◌+◌, ◌*◌, ◌^◌, ◌<◌, ◌≤◌, ◌∙◌, ap, sym, ℤ, pos, negsuc, neg_ℤ, ◌+ℤ◌, ◌*ℤ◌, ◌≤ℤ◌, unsigned_abs, arith, FitsSigned}
use Rattle.std.specs.Int.{w128}
use Rattle.std.proofs.lemmas.Int.{ints, unsigned_abs-mul, fits_signed_from_abs}
use Rattle.std.proofs.Math.IntN.{*ℤ_comm, *ℤ-zero, *ℤ-negsuc, suc_ℤ-*ℤ}
use Rattle.std.proofs.Math.Nat.{mul-le-mul_left, mul-le-mul_right}
use Rattle.nldm_lookup.specs.Axes.{most}

pub scale_suc : (x : ℤ) (n : ℕ) → x *ℤ pos (suc n) ≡ (x *ℤ pos n) +ℤ x
scale_suc x n = *ℤ_comm x (pos (suc n)) ∙ suc_ℤ-*ℤ (pos n) x ∙ ap (λ y. y +ℤ x) (*ℤ_comm (pos n) x)

sum_by_natural : (x y : ℤ) (n : ℕ) → (x +ℤ y) *ℤ pos n ≡ (x *ℤ pos n) +ℤ (y *ℤ pos n)
sum_by_natural x y zero =
    let a = *ℤ-zero (x +ℤ y) in
    let b = *ℤ-zero x in
    let c = *ℤ-zero y in
    omega (arith, ints, a, b, c)
sum_by_natural x y (suc n) =
    let a = scale_suc (x +ℤ y) n in
    let b = scale_suc x n in
    let c = scale_suc y n in
    let rest = sum_by_natural x y n in
    omega (arith, ints, a, b, c, rest)

-- a sum by a number
pub sum_scale : (x y z : ℤ) → (x +ℤ y) *ℤ z ≡ (x *ℤ z) +ℤ (y *ℤ z)
sum_scale x y (pos n) = sum_by_natural x y n
sum_scale x y (negsuc n) =
    let a = *ℤ-negsuc (x +ℤ y) n in
    let b = *ℤ-negsuc x n in
    let c = *ℤ-negsuc y n in
    let rest = sum_by_natural x y (suc n) in
    omega (arith, ints, a, b, c, rest)

-- a number by a sum
pub scale_sum : (x y z : ℤ) → x *ℤ (y +ℤ z) ≡ (x *ℤ y) +ℤ (x *ℤ z)
scale_sum x y z =
    let a = *ℤ_comm x (y +ℤ z) in
    let b = *ℤ_comm x y in
    let c = *ℤ_comm x z in
    let rest = sum_scale y z x in
    omega (arith, ints, a, b, c, rest)

by_negation : (x y : ℤ) → x *ℤ neg_ℤ y ≡ neg_ℤ (x *ℤ y)
by_negation x y =
    let none : y +ℤ neg_ℤ y ≡ pos 0 = omega (arith, ints) in
    let whole = ap (λ z. x *ℤ z) none ∙ *ℤ-zero x in
    let split = scale_sum x y (neg_ℤ y) in
    omega (arith, ints, whole, split)

product_by_natural : (x y : ℤ) (n : ℕ) → x *ℤ (y *ℤ pos n) ≡ (x *ℤ y) *ℤ pos n
product_by_natural x y zero = ap (λ z. x *ℤ z) (*ℤ-zero y) ∙ *ℤ-zero x ∙ sym (*ℤ-zero (x *ℤ y))
product_by_natural x y (suc n) =
    let a = ap (λ z. x *ℤ z) (scale_suc y n) in
    let b = scale_sum x (y *ℤ pos n) y in
    let c = scale_suc (x *ℤ y) n in
    let rest = product_by_natural x y n in
    omega (arith, ints, a, b, c, rest)

-- a number by a product
pub scale_times : (x y z : ℤ) → x *ℤ (y *ℤ z) ≡ (x *ℤ y) *ℤ z
scale_times x y (pos n) = product_by_natural x y n
scale_times x y (negsuc n) =
    ap (λ z. x *ℤ z) (*ℤ-negsuc y n) ∙ by_negation x (y *ℤ pos (suc n)) ∙ ap neg_ℤ (product_by_natural x y (suc n)) ∙ sym (*ℤ-negsuc (x *ℤ y) n)

pub swapped : (x a b : ℤ) → (x *ℤ a) *ℤ b ≡ (x *ℤ b) *ℤ a
swapped x a b = sym (scale_times x a b) ∙ ap (λ z. x *ℤ z) (*ℤ_comm a b) ∙ scale_times x b a

-- positive numbers
pub product_some : (a b : ℤ) → pos 1 ≤ℤ a → pos 1 ≤ℤ b → pos 1 ≤ℤ (a *ℤ b)
product_some (pos a) (pos b) one other =
    let grows : 1 * b ≤ a * b = mul-le-mul_right b (omega (arith, ints, one)) in
    omega (arith, ints, grows, other)
product_some (pos a) (negsuc b) one other = absurd (omega (arith, ints, other))
product_some (negsuc a) b one other = absurd (omega (arith, ints, one))

pub scale_small : (x weight : ℤ) (bound : ℕ) → unsigned_abs x ≤ bound → unsigned_abs (x *ℤ weight) ≤ bound * unsigned_abs weight
scale_small x weight bound small =
    let size : unsigned_abs (x *ℤ weight) ≡ unsigned_abs x * unsigned_abs weight = unsigned_abs-mul x weight in
    let grows : unsigned_abs x * unsigned_abs weight ≤ bound * unsigned_abs weight = mul-le-mul_right (unsigned_abs weight) small in
    omega (arith, size, grows)

-- without a weight the second value counts for nothing
pub alone : (x y low high : ℤ) → high ≡ pos 0 → x *ℤ low ≡ (x *ℤ low) +ℤ (y *ℤ high)
alone x y low high none =
    let nothing : y *ℤ high ≡ pos 0 = ap (λ n. y *ℤ n) none ∙ *ℤ-zero y in
    omega (arith, ints, nothing)

-- one value or two by their weights are within the bound by the sizes of the weights
pub lone_small : (a x low high : ℤ) (bound : ℕ) → a ≡ x *ℤ low → unsigned_abs x ≤ bound → unsigned_abs a ≤ bound * (unsigned_abs low + unsigned_abs high)
lone_small a x low high bound is small =
    let one = scale_small x low bound small in
    let split : bound * (unsigned_abs low + unsigned_abs high) ≡ bound * unsigned_abs low + bound * unsigned_abs high = grind arith in
    omega (arith, ints, is, one, split)

pub row_small : (a b x y low high : ℤ) (bound : ℕ) → a ≡ x *ℤ low → b ≡ y *ℤ high → unsigned_abs x ≤ bound → unsigned_abs y ≤ bound
    → unsigned_abs (a +ℤ b) ≤ bound * (unsigned_abs low + unsigned_abs high)
row_small a b x y low high bound one other small large =
    let first = scale_small x low bound small in
    let second = scale_small y high bound large in
    let split : bound * (unsigned_abs low + unsigned_abs high) ≡ bound * unsigned_abs low + bound * unsigned_abs high = grind arith in
    omega (arith, ints, one, other, first, second, split)

-- a place of a list of rows
pub place_within : (row column rows columns : ℕ) → row < rows → column < columns → row * columns + column < rows * columns
place_within row column rows columns one other =
    let grows : suc row * columns ≤ rows * columns = mul-le-mul_right columns one in
    let next : suc row * columns ≡ row * columns + columns = grind arith in
    omega (arith, grows, next, other)

pub fits : (z : ℤ) → unsigned_abs z ≤ 10 ^ 37 → FitsSigned w128 z
fits z small = fits_signed_from_abs w128 z (omega (arith, small))

-- values by two weights, and by four
pub one_weight : (size : ℕ) → size ≤ 2 * most → most * size ≤ 2 * 10 ^ 24
one_weight size small = omega (arith, small)

pub two_weights : (sum size : ℕ) → sum ≤ 2 * 10 ^ 24 → size ≤ 2 * most → sum * size ≤ 4 * 10 ^ 36
two_weights sum size small few =
    let grows : sum * size ≤ sum * (2 * most) = mul-le-mul_left sum few in
    omega (arith, grows, small)
