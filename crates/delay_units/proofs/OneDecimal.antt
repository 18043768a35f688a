-- A literal has one value.
use Rattle.std.proofs.Common.{◌≡◌, ℕ, zero, suc, ◌+◌, ◌-◌, ◌*◌, ◌%◌, ◌^◌, ◌≤◌, ◌⊎◌, inl, inr, ⊎_elim, List, ℤ, pos, negsuc, ◌+ℤ◌, ◌*ℤ◌, neg_ℤ, unsigned_abs, sym, refl, ap, ◌∙◌, subst, arith}
use Rattle.std.proofs.Math.IntN.{zero-*ℤ, pos-*ℤ-pos, negsuc-*ℤ-pos}
use Rattle.std.proofs.Math.Nat.{mul-mod_right, mul_comm, mul_assoc}
use Rattle.std.proofs.lemmas.Int.{ints, unsigned_abs-mul}
use Rattle.std.proofs.lemmas.Nat.{pow-add}
use Rattle.std.proofs.str.Laws.{order}
use Rattle.delay_units.specs.Literal.{Literal, IsDecimalOf, IsNumber, SameNumber}
use Rattle.delay_units.specs.declared.numbers.Decimal.{Decimal}
use Rattle.delay_units.proofs.AnswerLemmas.{neg-product}
use Rattle.delay_units.proofs.OneLiteral.{one_literal}
use Rattle.delay_units.proofs.PowerLemmas.{ten_is_positive, ten_suc}
use Rattle.delay_units.proofs.RoundingLemmas.{one_value, rounding_from}

-- a factor that is not 0 cancels
cancel : (m n : ℤ) (p : ℕ) → 1 ≤ p → m *ℤ pos p ≡ n *ℤ pos p → m ≡ n
cancel m n p positive e =
    let P : ℤ = m *ℤ pos p in
    one_value (m *ℤ pos p) (pos p) m n (omega (arith, ints, positive))
    (rounding_from (m *ℤ pos p) (pos p) m (m *ℤ pos p) refl (omega (arith, ints, positive)) (omega (arith, ints, positive)))
    (rounding_from (m *ℤ pos p) (pos p) n (m *ℤ pos p) e (omega (arith, ints, positive)) (omega (arith, ints, positive)))

times : (m : ℤ) (p q : ℕ) → (m *ℤ pos p) *ℤ pos q ≡ m *ℤ pos (p * q)
times (pos a) p q = ap (λ x. x *ℤ pos q) (pos-*ℤ-pos a p) ∙ pos-*ℤ-pos (a * p) q ∙ ap pos (mul_assoc a p q) ∙ sym (pos-*ℤ-pos a (p * q))
times (negsuc a) p q = ap (λ x. x *ℤ pos q) (negsuc-*ℤ-pos a p) ∙ neg-product (suc a * p) q ∙ ap (λ x. neg_ℤ (pos x)) (mul_assoc (suc a) p q) ∙ sym (negsuc-*ℤ-pos a (p * q))

-- one power of ten after another
powers : (m : ℤ) (i j : ℕ) → (m *ℤ pos (10 ^ i)) *ℤ pos (10 ^ j) ≡ m *ℤ pos (10 ^ (i + j))
powers m i j = times m (10 ^ i) (10 ^ j) ∙ ap (λ x. m *ℤ pos x) (sym (pow-add 10 i j))

-- a multiple of ten ends in 0
ends_in_zero : (m n : ℤ) (k : ℕ) → m ≡ n *ℤ pos (10 ^ suc k) → unsigned_abs m % 10 ≡ 0
ends_in_zero m n k e =
    let a : ℕ = unsigned_abs n in
    let size : unsigned_abs m ≡ a * 10 ^ suc k = ap unsigned_abs e ∙ unsigned_abs-mul n (pos (10 ^ suc k)) in
    let multiple : unsigned_abs m ≡ 10 * (a * 10 ^ k) = size ∙ ap (λ x. a * x) (ten_suc k) ∙ sym (mul_assoc a (10 ^ k) 10) ∙ mul_comm (a * 10 ^ k) 10 in
    ap (λ x. x % 10) multiple ∙ mul-mod_right 10 (a * 10 ^ k)

is_zero : (m : ℤ) → (m ≡ pos 0) ⊎ (m ≡ pos 0 → ⊥)
is_zero (pos zero) = inl refl
is_zero (pos (suc n)) = inr (λ e. cc)
is_zero (negsuc n) = inr (λ e. cc)

-- digits and an exponent without trailing zeros
pub record IsNormal (m e : ℤ) : Type 0 where
  pub no_trailing_zero : (m ≡ pos 0 → ⊥) → unsigned_abs m % 10 ≡ 0 → ⊥
  pub zero : m ≡ pos 0 → e ≡ pos 0

abbrev pub Same : (m e n f : ℤ) → Type 0
Same m e n f = (m ≡ n) × (e ≡ f)

same_zero : (m e n f : ℤ) → IsNormal m e → IsNormal n f → m ≡ pos 0 → n ≡ pos 0 → Same m e n f
same_zero m e n f one other mz nz = (mz ∙ sym nz, one.zero mz ∙ sym (other.zero nz))

-- the one with more zeros to add has none
shifted : (m e n f : ℤ) (x k : ℕ) → IsNormal m e → IsNormal n f → m *ℤ pos (10 ^ x) ≡ n *ℤ pos (10 ^ (suc k + x)) → Same m e n f
shifted m e n f x k one other h =
    let digits : m ≡ n *ℤ pos (10 ^ suc k) = cancel m (n *ℤ pos (10 ^ suc k)) (10 ^ x) (ten_is_positive x) (h ∙ sym (powers n (suc k) x)) in
    ⊎_elim
    (λ mz. same_zero m e n f one other mz (cancel n (pos 0) (10 ^ suc k) (ten_is_positive (suc k)) (sym digits ∙ mz ∙ sym (zero-*ℤ (pos (10 ^ suc k))))))
    (λ not_zero. absurd (one.no_trailing_zero not_zero (ends_in_zero m n k digits)))
    (is_zero m)

-- numbers in that form are equal only digit by digit
pub normal_same : (m e n f : ℤ) (x y : ℕ) → IsNormal m e → IsNormal n f → m *ℤ pos (10 ^ x) ≡ n *ℤ pos (10 ^ y) → e +ℤ pos y ≡ f +ℤ pos x → Same m e n f
normal_same m e n f x y one other h g =
    ⊎_elim
    (λ lt.
    let k : ℕ = y - x - 1 in
    let is : y ≡ suc k + x = omega arith in
    shifted m e n f x k one other (h ∙ ap (λ i. n *ℤ pos (10 ^ i)) is))
    (λ le.
    ⊎_elim
    (λ lt.
    let k : ℕ = x - y - 1 in
    let is : x ≡ suc k + y = omega arith in
    let same = shifted n f m e y k other one (sym h ∙ ap (λ i. m *ℤ pos (10 ^ i)) is) in
    (sym same.0, sym same.1))
    (λ ge.
    let is : y ≡ x = omega arith in
    (cancel m n (10 ^ x) (ten_is_positive x) (h ∙ ap (λ i. n *ℤ pos (10 ^ i)) is), omega (arith, ints, g)))
    (order y x))
    (order x y)

-- two decimals that are the same number as a third are the same number
pub same_through : (m e n f s t : ℤ) → SameNumber m e s t → SameNumber n f s t → IsNormal m e → IsNormal n f → Same m e n f
same_through m e n f s t one other first second =
    let a : ℕ = one.0 in
    let b : ℕ = one.1 in
    let c : ℕ = other.0 in
    let d : ℕ = other.1 in
    let left : (m *ℤ pos (10 ^ a)) *ℤ pos (10 ^ d) ≡ (s *ℤ pos (10 ^ b)) *ℤ pos (10 ^ d) = ap (λ x. x *ℤ pos (10 ^ d)) one.3 in
    let right : (n *ℤ pos (10 ^ c)) *ℤ pos (10 ^ b) ≡ (s *ℤ pos (10 ^ d)) *ℤ pos (10 ^ b) = ap (λ x. x *ℤ pos (10 ^ b)) other.3 in
    let middle : (s *ℤ pos (10 ^ b)) *ℤ pos (10 ^ d) ≡ (s *ℤ pos (10 ^ d)) *ℤ pos (10 ^ b) = powers s b d ∙ ap (λ i. s *ℤ pos (10 ^ i)) (omega arith) ∙ sym (powers s d b) in
    normal_same m e n f (a + d) (c + b) first second
    (sym (powers m a d) ∙ left ∙ middle ∙ sym right ∙ powers n c b)
    (let h = one.2 in let g = other.2 in omega (arith, ints, h, g))

of_literal : (l : Literal) (d e : Decimal) → IsDecimalOf l d → IsDecimalOf l e → (d.digits ≡ e.digits) × (d.exponent ≡ e.exponent)
of_literal l d e one other =
    same_through d.digits d.exponent e.digits e.exponent _ _ one.value other.value
    (record { no_trailing_zero = one.no_trailing_zero; zero = one.zero })
    (record { no_trailing_zero = other.no_trailing_zero; zero = other.zero })

-- a text has one value
pub one_decimal : (text : List ℕ) (d e : Decimal) → IsNumber text d → IsNumber text e → (d.digits ≡ e.digits) × (d.exponent ≡ e.exponent)
one_decimal text d e one other =
    of_literal other.literal d e (subst (λ (l : Literal). IsDecimalOf l d) (one_literal text one.literal other.literal one.spells other.spells) one.value) other.value
