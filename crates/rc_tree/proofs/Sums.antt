-- Sums over the numbers below a bound.
use Rattle.std.proofs.Common.{◌≡◌, ◌≢◌, ℕ, zero, suc, ◌+◌, ◌*◌, ◌<◌, ◌≤◌, ◌⊎◌, if◌then◌else◌, map, sum_by, refl, sym, ◌∙◌, ap, ap₂, arith, eq-eqb, mul-zero, zero-mul, one-mul, add-le-add, mul_comm, inl, inr}
use Rattle.std.specs.List.{range_with_len}
use Rattle.std.proofs.lemmas.Bool.{cases_eq, cases_lt}
use Rattle.std.proofs.lemmas.Bool.Decides.{eqb_tells}
use Rattle.std.proofs.lemmas.List.Sums.{sum_by-cons}
use Rattle.std.proofs.Math.Nat.{mul-add, add-mul}
use Rattle.rc_tree.specs.Sums.{sum_below, one}

pub le-or-lt : (a b : ℕ) → (a ≤ b) ⊎ (b < a)
le-or-lt a b = elim (cases_lt b a) [ inl h ↦ inr h | inr h ↦ inl h ]

pub one-same : (i : ℕ) → one i i ≡ 1
one-same i = ap (λ b. if b then 1 else 0) (eq-eqb i i refl)

pub one-is : (i k : ℕ) → i ≡ k → one i k ≡ 1
one-is i k e = ap (λ b. if b then 1 else 0) (eq-eqb i k e)

pub one-other : (i k : ℕ) → i ≢ k → one i k ≡ 0
one-other i k ne = elim (eqb_tells i k) [ inl h ↦ absurd (ne h.1) | inr h ↦ ap (λ b. if b then 1 else 0) h.0 ]

pub one-cases : (i k : ℕ) → ((i ≡ k) × (one i k ≡ 1)) ⊎ ((i ≢ k) × (one i k ≡ 0))
one-cases i k = elim (cases_eq i k) [ inl e ↦ inl (e, one-is i k e) | inr ne ↦ inr (ne, one-other i k ne) ]

pub one-swap : (i k : ℕ) → one i k ≡ one k i
one-swap i k = elim (cases_eq i k) [ inl e ↦ one-is i k e ∙ sym (one-is k i (sym e)) | inr ne ↦ one-other i k ne ∙ sym (one-other k i (λ e. ne (sym e))) ]

pub sum_cong : (n : ℕ) (f g : ℕ → ℕ) → ((k : ℕ) → k < n → f k ≡ g k) → sum_below n f ≡ sum_below n g
sum_cong zero f g same = refl
sum_cong (suc n) f g same = ap₂ ◌+◌ (sum_cong n f g (λ k h. same k (omega arith))) (same n (omega arith))

pub sum_add : (n : ℕ) (f g : ℕ → ℕ) → sum_below n (λ k. f k + g k) ≡ sum_below n f + sum_below n g
sum_add zero f g = refl
sum_add (suc n) f g = let ih = sum_add n f g in omega arith

pub sum_mul : (n c : ℕ) (f : ℕ → ℕ) → sum_below n (λ k. c * f k) ≡ c * sum_below n f
sum_mul zero c f = sym (mul-zero c)
sum_mul (suc n) c f = ap (λ s. s + c * f n) (sum_mul n c f) ∙ sym (mul-add c (sum_below n f) (f n))

pub sum_mul_right : (n c : ℕ) (f : ℕ → ℕ) → sum_below n (λ k. f k * c) ≡ sum_below n f * c
sum_mul_right n c f = sum_cong n (λ k. f k * c) (λ k. c * f k) (λ k h. mul_comm (f k) c) ∙ sum_mul n c f ∙ mul_comm c (sum_below n f)

pub sum_zero : (n : ℕ) (f : ℕ → ℕ) → ((k : ℕ) → k < n → f k ≡ 0) → sum_below n f ≡ 0
sum_zero zero f none = refl
sum_zero (suc n) f none = let rest = sum_zero n f (λ k h. none k (omega arith)) in let last = none n (omega arith) in omega arith

pub sum_swap : (n m : ℕ) (f : ℕ → ℕ → ℕ) → sum_below n (λ i. sum_below m (λ j. f i j)) ≡ sum_below m (λ j. sum_below n (λ i. f i j))
sum_swap zero m f = sym (sum_zero m (λ j. 0) (λ k h. refl))
sum_swap (suc n) m f = ap (λ s. s + sum_below m (f n)) (sum_swap n m f) ∙ sym (sum_add m (λ j. sum_below n (λ i. f i j)) (f n))

-- the term of one number alone
pub sum_pick : (n i : ℕ) (f : ℕ → ℕ) → i < n → sum_below n (λ k. one i k * f k) ≡ f i
sum_pick zero i f below = absurd (omega arith)
sum_pick (suc n) i f below = elim (one-cases i n) [
  | inl h ↦
      let rest : sum_below n (λ k. one i k * f k) ≡ 0 = sum_zero n (λ k. one i k * f k) (λ k l. let ne : i ≢ k = λ e. (let w = h.0 in omega arith) in ap (λ o. o * f k) (one-other i k ne) ∙ zero-mul (f k)) in
      let last : one i n * f n ≡ f i = ap (λ o. o * f n) h.1 ∙ one-mul (f n) ∙ ap f (sym h.0) in
      omega arith
  | inr h ↦
      let ne : i ≢ n = h.0 in
      let rest : sum_below n (λ k. one i k * f k) ≡ f i = sum_pick n i f (omega arith) in
      let last : one i n * f n ≡ 0 = ap (λ o. o * f n) h.1 ∙ zero-mul (f n) in
      omega arith
]

pub sum_le : (n : ℕ) (f g : ℕ → ℕ) → ((k : ℕ) → k < n → f k ≤ g k) → sum_below n f ≤ sum_below n g
sum_le zero f g each = omega arith
sum_le (suc n) f g each = add-le-add (sum_le n f g (λ k h. each k (omega arith))) (each n (omega arith))

pub sum_const : (n c : ℕ) → sum_below n (λ k. c) ≡ n * c
sum_const zero c = sym (zero-mul c)
sum_const (suc n) c = let ih = sum_const n c in let step : suc n * c ≡ n * c + c = ap (λ s. s * c) (let e : suc n ≡ n + 1 = omega arith in e) ∙ add-mul n 1 c ∙ ap (λ s. n * c + s) (one-mul c) in omega arith

pub sum_bound : (n c : ℕ) (f : ℕ → ℕ) → ((k : ℕ) → k < n → f k ≤ c) → sum_below n f ≤ n * c
sum_bound n c f each = let top = sum_le n f (λ k. c) each in let is = sum_const n c in omega arith

-- a term is no more than the sum
pub sum_term : (n k : ℕ) (f : ℕ → ℕ) → k < n → f k ≤ sum_below n f
sum_term zero k f below = absurd (omega arith)
sum_term (suc n) k f below = elim (cases_eq k n) [
  | inl e ↦ let same : f k ≡ f n = ap f e in omega arith
  | inr ne ↦ let ne' : k ≢ n = ne in let ih = sum_term n k f (omega arith) in omega arith
]

-- the sum over a longer stretch is no less
pub sum_mono : (n m : ℕ) (f : ℕ → ℕ) → n ≤ m → sum_below n f ≤ sum_below m f
sum_mono n zero f le = let e : n ≡ 0 = omega arith in let same : sum_below n f ≡ sum_below 0 f = ap (λ k. sum_below k f) e in omega arith
sum_mono n (suc m) f le = elim (cases_eq n (suc m)) [
  | inl e ↦ let same : sum_below n f ≡ sum_below (suc m) f = ap (λ k. sum_below k f) e in omega arith
  | inr ne ↦ let ne' : n ≢ suc m = ne in let ih = sum_mono n m f (omega arith) in omega arith
]

-- one term more
pub sum_more : (n : ℕ) (f : ℕ → ℕ) → sum_below (n + 1) f ≡ sum_below n f + f n
sum_more n f = ap (λ k. sum_below k f) (let e : n + 1 ≡ suc n = omega arith in e)

-- the first term apart
pub sum_first : (n : ℕ) (f : ℕ → ℕ) → sum_below (suc n) f ≡ f 0 + sum_below n (λ k. f (k + 1))
sum_first zero f = omega arith
sum_first (suc n) f = let ih = sum_first n f in let e : f (suc n) ≡ f (n + 1) = ap f (let w : suc n ≡ n + 1 = omega arith in w) in omega arith

-- a sum over what a stretch of numbers is mapped to
pub sum_range : {X : Type 0} (g : X → ℕ) (f : ℕ → X) (a n : ℕ) → sum_by g (map f (range_with_len a n)) ≡ sum_below n (λ k. g (f (a + k)))
sum_range g f a zero = refl
sum_range g f a (suc n) =
    sum_by-cons g (f a) (map f (range_with_len (a + 1) n))
    ∙ ap (λ s. g (f a) + s) (sum_range g f (a + 1) n)
    ∙ ap₂ ◌+◌ (ap (λ k. g (f k)) (let e : a ≡ a + 0 = omega arith in e)) (sum_cong n (λ k. g (f (a + 1 + k))) (λ k. g (f (a + (k + 1)))) (λ k h. ap (λ j. g (f j)) (let e : a + 1 + k ≡ a + (k + 1) = omega arith in e)))
    ∙ sym (sum_first n (λ k. g (f (a + k))))
