-- That a quotient has one rounding, and which it is.
use Rattle.std.proofs.Common.{◌≡◌, ℕ, zero, suc, ◌+◌, ◌*◌, ◌/◌, ◌%◌, ◌<◌, ◌≤◌, ℤ, pos, negsuc, ◌+ℤ◌, ◌-ℤ◌, ◌*ℤ◌, ◌≤ℤ◌, ◌<ℤ◌, unsigned_abs, sym, ap, ◌∙◌, refl, arith, inl, inr, ◌⊎◌}
use Rattle.std.specs.Int.{int_div_euclid, int_rem_euclid}
use Rattle.std.proofs.lemmas.Int.{ints, by_lt_z}
use Rattle.std.proofs.Math.Nat.{div-le_self}
use lib.IntN.{+ℤ-suc_ℤ, +ℤ-pred_ℤ, suc_ℤ-*ℤ, pred_ℤ-*ℤ, +ℤ_idr, zero-*ℤ, +ℤ_one, -ℤ_one, pos-*ℤ-pos, negsuc-*ℤ-pos}
use Rattle.delay_units.specs.Rounding.{IsRounding, OneRounding}

-- the product of a sum
sum-*ℤ : (a b d : ℤ) → (a +ℤ b) *ℤ d ≡ (a *ℤ d) +ℤ (b *ℤ d)
sum-*ℤ a (pos zero) d = ap (λ x. x *ℤ d) (+ℤ_idr a) ∙ sym (ap (λ x. (a *ℤ d) +ℤ x) (zero-*ℤ d) ∙ +ℤ_idr (a *ℤ d))
sum-*ℤ a (pos (suc n)) d =
    let one : (a +ℤ pos (suc n)) *ℤ d ≡ ((a +ℤ pos n) *ℤ d) +ℤ d = ap (λ x. x *ℤ d) (+ℤ-suc_ℤ a (pos n)) ∙ suc_ℤ-*ℤ (a +ℤ pos n) d in
    let two : pos (suc n) *ℤ d ≡ (pos n *ℤ d) +ℤ d = suc_ℤ-*ℤ (pos n) d in
    let before : (a +ℤ pos n) *ℤ d ≡ (a *ℤ d) +ℤ (pos n *ℤ d) = sum-*ℤ a (pos n) d in
    omega (arith, ints, one, two, before)
sum-*ℤ a (negsuc zero) d =
    let one : (a -ℤ pos 1) *ℤ d ≡ (a *ℤ d) -ℤ d = ap (λ x. x *ℤ d) (-ℤ_one a) ∙ pred_ℤ-*ℤ a d in
    let two : negsuc zero *ℤ d ≡ (pos zero *ℤ d) -ℤ d = pred_ℤ-*ℤ (pos zero) d in
    let three = zero-*ℤ d in
    omega (arith, ints, one, two, three)
sum-*ℤ a (negsuc (suc n)) d =
    let one : (a +ℤ negsuc (suc n)) *ℤ d ≡ ((a +ℤ negsuc n) *ℤ d) -ℤ d = ap (λ x. x *ℤ d) (+ℤ-pred_ℤ a (negsuc n)) ∙ pred_ℤ-*ℤ (a +ℤ negsuc n) d in
    let two : negsuc (suc n) *ℤ d ≡ (negsuc n *ℤ d) -ℤ d = pred_ℤ-*ℤ (negsuc n) d in
    let before : (a +ℤ negsuc n) *ℤ d ≡ (a *ℤ d) +ℤ (negsuc n *ℤ d) = sum-*ℤ a (negsuc n) d in
    omega (arith, ints, one, two, before)

twice : (v : ℤ) → pos 2 *ℤ v ≡ v +ℤ v
twice v = omega (arith, ints)

-- the two bounds of a rounding, over the product v * d
least_of : (v d : ℤ) → (((pos 2 *ℤ v) -ℤ pos 1) *ℤ d) ≡ (((v *ℤ d) +ℤ (v *ℤ d)) -ℤ d)
least_of v d =
    ap (λ x. x *ℤ d) (-ℤ_one (pos 2 *ℤ v)) ∙ pred_ℤ-*ℤ (pos 2 *ℤ v) d
    ∙ ap (λ x. x -ℤ d) (ap (λ x. x *ℤ d) (twice v) ∙ sum-*ℤ v v d)

most_of : (v d : ℤ) → (((pos 2 *ℤ v) +ℤ pos 1) *ℤ d) ≡ (((v *ℤ d) +ℤ (v *ℤ d)) +ℤ d)
most_of v d =
    ap (λ x. x *ℤ d) (+ℤ_one (pos 2 *ℤ v)) ∙ suc_ℤ-*ℤ (pos 2 *ℤ v) d
    ∙ ap (λ x. x +ℤ d) (ap (λ x. x *ℤ d) (twice v) ∙ sum-*ℤ v v d)

pub rounding_from : (n d v q : ℤ) → q ≡ v *ℤ d → ((q +ℤ q) -ℤ d) ≤ℤ (n +ℤ n) → (n +ℤ n) <ℤ ((q +ℤ q) +ℤ d) → IsRounding n d v
rounding_from n d v q e low high =
    let two = twice n in
    let l = least_of v d in
    let m = most_of v d in
    record { least = omega (arith, ints, two, l, e, low); most = omega (arith, ints, two, m, e, high) }

pub rounding_low : (n d v : ℤ) → IsRounding n d v → (((v *ℤ d) +ℤ (v *ℤ d)) -ℤ d) ≤ℤ (n +ℤ n)
rounding_low n d v r = omega (arith, ints, twice n, least_of v d, r.least)

pub rounding_high : (n d v : ℤ) → IsRounding n d v → (n +ℤ n) <ℤ (((v *ℤ d) +ℤ (v *ℤ d)) +ℤ d)
rounding_high n d v r = omega (arith, ints, twice n, most_of v d, r.most)

-- a greater factor makes a product greater by the divisor or more
product_grows : (v d : ℤ) (k : ℕ) → pos 0 <ℤ d → ((v *ℤ d) +ℤ d) ≤ℤ ((v +ℤ pos (suc k)) *ℤ d)
product_grows v (pos c) k h =
    let s = sum-*ℤ v (pos (suc k)) (pos c) in
    let p = pos-*ℤ-pos (suc k) c in
    let g : c ≤ suc k * c = grind arith in
    omega (arith, ints, s, p, g)
product_grows v (negsuc c) k h = absurd (omega (arith, ints, h))

not_less : (n d v w : ℤ) → pos 0 <ℤ d → IsRounding n d v → IsRounding n d w → v <ℤ w → ⊥
not_less n d v w h r s l =
    let e : w ≡ v +ℤ pos (suc (unsigned_abs ((w -ℤ v) -ℤ pos 1))) = omega (arith, ints) in
    let g = product_grows v d (unsigned_abs ((w -ℤ v) -ℤ pos 1)) h in
    let f : (v +ℤ pos (suc (unsigned_abs ((w -ℤ v) -ℤ pos 1)))) *ℤ d ≡ w *ℤ d = ap (λ x. x *ℤ d) (sym e) in
    omega (arith, ints, g, f, rounding_high n d v r, rounding_low n d w s)

pub one_value : (n d v w : ℤ) → pos 0 <ℤ d → IsRounding n d v → IsRounding n d w → v ≡ w
one_value n d v w h r s =
    by_lt_z v w (λ l. absurd (not_less n d v w h r s l))
    (λ l. by_lt_z w v (λ m. absurd (not_less n d w v h s r m)) (λ m. omega (arith, ints, l, m)))

-- the quotient and the rest of a division by a positive number
pub division : (n d : ℤ) → pos 1 ≤ℤ d → n ≡ (int_div_euclid n d *ℤ d) +ℤ int_rem_euclid n d
division (pos a) (pos c) h =
    let p = pos-*ℤ-pos (a / c) c in
    let m : a / c * c + a % c ≡ a = omega arith in
    omega (arith, ints, p, m)
division (negsuc a) (pos c) h =
    let p = negsuc-*ℤ-pos (a / c) c in
    let m : a / c * c + a % c ≡ a = omega arith in
    let e : suc (a / c) * c ≡ a / c * c + c = grind arith in
    let b : a % c < c = omega (arith, ints, h) in
    omega (arith, ints, p, m, e, b)
division n (negsuc c) h = absurd (omega (arith, ints, h))

pub rest_in_range : (n d : ℤ) → pos 1 ≤ℤ d → (pos 0 ≤ℤ int_rem_euclid n d) × (int_rem_euclid n d <ℤ d)
rest_in_range (pos a) (pos c) h =
    let b : a % c < c = omega (arith, ints, h) in
    (omega (arith, ints), omega (arith, ints, b))
rest_in_range (negsuc a) (pos c) h =
    let b : a % c < c = omega (arith, ints, h) in
    (omega (arith, ints, b), omega (arith, ints, b))
rest_in_range n (negsuc c) h = absurd (omega (arith, ints, h))

-- the rest by the quotient
pub rest_of : (n d q : ℤ) → pos 1 ≤ℤ d → q ≡ int_div_euclid n d → (n -ℤ (q *ℤ d)) ≡ int_rem_euclid n d
rest_of n d q h eq =
    let whole = division n d h in
    let f : q *ℤ d ≡ int_div_euclid n d *ℤ d = ap (λ x. x *ℤ d) eq in
    omega (arith, ints, whole, f)

-- the multiple of the divisor that is next below
pub next_below : (n d q : ℤ) → pos 1 ≤ℤ d → q ≡ int_div_euclid n d → ((q *ℤ d) ≤ℤ n) × (n <ℤ ((q *ℤ d) +ℤ d))
next_below n d q h eq =
    let whole = division n d h in
    let range = rest_in_range n d h in
    let f : q *ℤ d ≡ int_div_euclid n d *ℤ d = ap (λ x. x *ℤ d) eq in
    (omega (arith, ints, whole, f, range.0), omega (arith, ints, whole, f, range.1))

pub rounds_down : (n d q r : ℤ) → pos 1 ≤ℤ d → q ≡ int_div_euclid n d → r ≡ int_rem_euclid n d → (r +ℤ r) <ℤ d → IsRounding n d q
rounds_down n d q r h eq er less =
    let whole = division n d h in
    let range = rest_in_range n d h in
    let f : q *ℤ d ≡ int_div_euclid n d *ℤ d = ap (λ x. x *ℤ d) eq in
    rounding_from n d q (q *ℤ d) refl (omega (arith, ints, whole, f, er, range)) (omega (arith, ints, whole, f, er, less))

pub rounds_up : (n d q r : ℤ) → pos 1 ≤ℤ d → q ≡ int_div_euclid n d → r ≡ int_rem_euclid n d → d ≤ℤ (r +ℤ r) → IsRounding n d (q +ℤ pos 1)
rounds_up n d q r h eq er more =
    let whole = division n d h in
    let range = rest_in_range n d h in
    let f : (q +ℤ pos 1) *ℤ d ≡ (int_div_euclid n d *ℤ d) +ℤ d =
    ap (λ x. x *ℤ d) (+ℤ_one q) ∙ suc_ℤ-*ℤ q d ∙ ap (λ x. (x *ℤ d) +ℤ d) eq in
    rounding_from n d (q +ℤ pos 1) ((q +ℤ pos 1) *ℤ d) refl (omega (arith, ints, whole, f, er, range)) (omega (arith, ints, whole, f, er, range, more))

-- the two cases together, and the law
rounding_by : (n d q r : ℤ) → pos 1 ≤ℤ d → q ≡ int_div_euclid n d → r ≡ int_rem_euclid n d → ((r +ℤ r) <ℤ d) ⊎ (d ≤ℤ (r +ℤ r)) → (v : ℤ) × IsRounding n d v
rounding_by n d q r h eq er (inl less) = (q, rounds_down n d q r h eq er less)
rounding_by n d q r h eq er (inr more) = (q +ℤ pos 1, rounds_up n d q r h eq er more)

pub one_rounding_lem : OneRounding
one_rounding_lem n d h =
    let one : pos 1 ≤ℤ d = omega (arith, ints, h) in
    let r = int_rem_euclid n d in
    let found = rounding_by n d (int_div_euclid n d) r one refl refl (by_lt_z (r +ℤ r) d (λ l. inl l) (λ m. inr m)) in
    (found.0, found.1, λ w s. one_value n d w found.0 h s found.1)

pub quotient_is_small : (n d : ℤ) → pos 1 ≤ℤ d → unsigned_abs (int_div_euclid n d) ≤ unsigned_abs n
quotient_is_small (pos a) (pos c) h = div-le_self a c
quotient_is_small (negsuc a) (pos c) h = let e : a / c ≤ a = div-le_self a c in omega (arith, e)
quotient_is_small n (negsuc c) h = absurd (omega (arith, ints, h))
