-- The literal that a text is, and its value, from the steps of reading.
use Rattle.std.proofs.Common.{◌≡◌, ◌≢◌, ℕ, zero, suc, ◌+◌, ◌-◌, ◌*◌, ◌%◌, ◌^◌, ◌<◌, ◌≤◌, List, [], ◌∷◌, ◌++◌, length, reverse, replicate, sym, ap, ◌∙◌, refl, arith, subst, Bool, true, false, eqb, ⊎_elim, inl, inr, ◌⊎◌, Option, Some, None, Result, Ok, Err, ℤ, pos, negsuc, neg_ℤ, ◌+ℤ◌, ◌-ℤ◌, ◌*ℤ◌, unsigned_abs, if◌then◌else◌, IfOk, IfErr}
use Rattle.std.proofs.lemmas.Bool.{cases_lt}
use Rattle.std.proofs.lemmas.Bool.Decides.{eqb_tells}
use Rattle.std.proofs.lemmas.Int.{ints}
use Rattle.std.proofs.lemmas.List.{replicate-append-replicate, reverse-append, reverse-reverse}
use Rattle.std.proofs.lemmas.List.Sums.{fold-append}
use lib.IntN.{pos-*ℤ-pos, negsuc-*ℤ-pos, zero-*ℤ}
use Rattle.delay_units.specs.Literal.{Sign, unsigned, plus, minus, sign_text, Exponent, Literal, fraction_text, fraction_digits, mantissa_digits, Spells, number_of, signed, exponent_size, exponent_of, without_leading_zeros, significant, SameNumber, IsDecimalOf, IsNumber, IsFaultOf, IsAnswerTo}
use Rattle.delay_units.specs.Parts.{IsCapped, SplitsSign, SplitsMantissa, IsPowerOf, is_minus, has_minus, signed_by, IsValueOf, DecidesDecimal}
use Rattle.delay_units.specs.Tallies.{NoZeroFirst, IsTallyOf}
use Rattle.delay_units.specs.declared.tally.Tally.{Tally}
use Rattle.delay_units.specs.declared.literal.Power.{Power}
use Rattle.delay_units.specs.declared.numbers.Decimal.{Decimal}
use Rattle.delay_units.specs.declared.numbers.NumberFault.{NumberFault}
use Rattle.delay_units.specs.declared.numbers.NumberFault.TheVariants.{NotANumber, TooManyDigits, ExponentTooLarge}
use Rattle.delay_units.proofs.PowerLemmas.{ten_le}
use Rattle.delay_units.proofs.TallyLemmas.{number_after, number_after-zeros}

-- ---- the significant digits

reverse-zeros : (z : ℕ) → reverse {A = ℕ} (replicate z 48) ≡ replicate z 48
reverse-zeros zero = refl
reverse-zeros (suc z) =
    let one : List ℕ = 48 ∷ [] in
    let next : z + 1 ≡ suc z = omega arith in
    reverse-append one (replicate z 48) ∙ ap (λ x. x ++ one) (reverse-zeros z)
    ∙ replicate-append-replicate z 1 48 ∙ ap (λ n. replicate n 48) next

without_leading_zeros-zeros : (l : ℕ) (xs : List ℕ) → without_leading_zeros (replicate l 48 ++ xs) ≡ without_leading_zeros xs
without_leading_zeros-zeros zero xs = refl
without_leading_zeros-zeros (suc l) xs = without_leading_zeros-zeros l xs

choice_of : (b : Bool) (xs ys : List ℕ) → b ≡ false → (if b then xs else ys) ≡ ys
choice_of true xs ys e = cc
choice_of false xs ys e = refl

without_leading_zeros-none : (xs : List ℕ) → NoZeroFirst xs → without_leading_zeros xs ≡ xs
without_leading_zeros-none [] h = refl
without_leading_zeros-none (c ∷ cs) h = choice_of (eqb c 48) (without_leading_zeros cs) (c ∷ cs) (⊎_elim (λ e. absurd (h e.1)) (λ e. e.0) (eqb_tells c 48))

significant-empty : (z : ℕ) → without_leading_zeros (replicate z 48) ≡ []
significant-empty zero = refl
significant-empty (suc z) = significant-empty z

from_front : (middle : List ℕ) (z : ℕ) → NoZeroFirst middle → NoZeroFirst (reverse middle) → reverse (without_leading_zeros (reverse (without_leading_zeros (middle ++ replicate z 48)))) ≡ middle
from_front [] z starts ends = ap (λ x. reverse (without_leading_zeros (reverse x))) (significant-empty z)
from_front (c ∷ cs) z starts ends =
    ap (λ x. reverse (without_leading_zeros (reverse x))) (without_leading_zeros-none ((c ∷ cs) ++ replicate z 48) starts)
    ∙ ap (λ x. reverse (without_leading_zeros x)) (reverse-append (c ∷ cs) (replicate z 48) ∙ ap (λ x. x ++ reverse (c ∷ cs)) (reverse-zeros z))
    ∙ ap reverse (without_leading_zeros-zeros z (reverse (c ∷ cs)) ∙ without_leading_zeros-none (reverse (c ∷ cs)) ends)
    ∙ reverse-reverse (c ∷ cs)

significant_is : (ds : List ℕ) (t : Tally) → (h : IsTallyOf ds t) → significant ds ≡ h.middle
significant_is ds t h =
    ap significant h.split
    ∙ ap (λ x. reverse (without_leading_zeros (reverse x))) (without_leading_zeros-zeros h.leading (h.middle ++ replicate t.zeros 48))
    ∙ from_front h.middle t.zeros h.starts h.ends

pub significant_count : (ds : List ℕ) (t : Tally) → IsTallyOf ds t → length (significant ds) ≡ t.significant
significant_count ds t h = ap length (significant_is ds t h) ∙ sym h.significant

pub number_is : (ds : List ℕ) (t : Tally) → (h : IsTallyOf ds t) → number_of ds ≡ number_of h.middle * 10 ^ t.zeros
number_is ds t h =
    ap number_of h.split
    ∙ fold-append (λ n c. n * 10 + (c - 48)) 0 (replicate h.leading 48) (h.middle ++ replicate t.zeros 48)
    ∙ ap (λ n. number_after n (h.middle ++ replicate t.zeros 48)) (number_after-zeros 0 h.leading ∙ omega arith)
    ∙ fold-append (λ n c. n * 10 + (c - 48)) 0 h.middle (replicate t.zeros 48)
    ∙ number_after-zeros (number_of h.middle) t.zeros

-- ---- the value

signed_is : (s : Sign) (n : ℕ) → signed s n ≡ signed_by (is_minus s) n
signed_is unsigned n = refl
signed_is plus n = refl
signed_is minus n = refl

pub neg-product : (n t : ℕ) → neg_ℤ (pos n) *ℤ pos t ≡ neg_ℤ (pos (n * t))
neg-product zero t = let e : 0 ≡ 0 * t = omega arith in zero-*ℤ (pos t) ∙ ap (λ x. neg_ℤ (pos x)) e
neg-product (suc n) t = negsuc-*ℤ-pos n t

signed_by-product : (b : Bool) (n t : ℕ) → signed_by b n *ℤ pos t ≡ signed_by b (n * t)
signed_by-product true n t = neg-product n t
signed_by-product false n t = pos-*ℤ-pos n t

pub signed_by-size : (b : Bool) (n : ℕ) → unsigned_abs (signed_by b n) ≡ n
signed_by-size true zero = refl
signed_by-size true (suc n) = refl
signed_by-size false n = refl

exponent_is : (x : Option Exponent) → signed_by (has_minus x) (exponent_size x) ≡ exponent_of x
exponent_is None = refl
exponent_is (Some e) = sym (signed_is e.sign (number_of e.digits))

pub by_one : (z : ℤ) → z *ℤ pos (10 ^ 0) ≡ z
by_one z = omega (arith, ints)

same_number : (m e n f : ℤ) (z : ℕ) → e ≡ f +ℤ pos z → n ≡ m *ℤ pos (10 ^ z) → SameNumber m e n f
same_number m e n f z ee en = (z, 0, omega (arith, ints, ee), sym en ∙ sym (by_one n))

pub zero_same : (f : ℤ) (m n : ℤ) → m ≡ pos 0 → n ≡ pos 0 → SameNumber m (pos 0) n f
zero_same (pos k) m n em en = (0, k, omega (arith, ints), ap (λ x. x *ℤ pos (10 ^ 0)) em ∙ zero-*ℤ (pos (10 ^ 0)) ∙ sym (ap (λ x. x *ℤ pos (10 ^ k)) en ∙ zero-*ℤ (pos (10 ^ k))))
zero_same (negsuc k) m n em en = (suc k, 0, omega (arith, ints), ap (λ x. x *ℤ pos (10 ^ suc k)) em ∙ zero-*ℤ (pos (10 ^ suc k)) ∙ sym (ap (λ x. x *ℤ pos (10 ^ 0)) en ∙ zero-*ℤ (pos (10 ^ 0))))

-- ---- the literal

abbrev pub the_literal : {text u rest : List ℕ} {negative : Bool} {t : Tally} {places : ℕ} {power : Power} → SplitsSign text negative u → SplitsMantissa u t places rest → IsPowerOf rest power → Literal
the_literal s m p = record { sign = s.sign; whole = m.parts.whole; fraction = m.parts.fraction; exponent = p.exponent }

pub spells_from : (text u rest : List ℕ) (negative : Bool) (t : Tally) (places : ℕ) (power : Power) → (s : SplitsSign text negative u) → (m : SplitsMantissa u t places rest) → 0 < t.digits → (p : IsPowerOf rest power) → Spells text (the_literal s m p)
spells_from text u rest negative t places power s m some p = record {
  writes = s.split ∙ ap (λ x. sign_text s.sign ++ x) (m.parts.split ∙ ap (λ x. m.parts.whole ++ (fraction_text m.parts.fraction ++ x)) p.split);
  whole = m.parts.whole_are_digits;
  fraction = m.parts.fraction_are_digits;
  some_digit = omega (arith, some, m.tally.digits);
  exponent = p.formed;
}

too_small : (size : ℕ) → size ≤ 99 → 99 < size → ⊥
too_small size a b = omega (arith, a, b)

capped_same : (n size : ℕ) → IsCapped n size → size ≤ 99 → size ≡ n
capped_same n size h small = ⊎_elim (λ l. absurd (too_small size small (h.large l))) (λ l. h.small l) (cases_lt 99 n)

capped_large : (n size : ℕ) → IsCapped n size → 99 < size → 99 < n
capped_large n size h large = ⊎_elim (λ l. l) (λ l. absurd (too_small n l (subst (λ (x : ℕ). 99 < x) (h.small l) large))) (cases_lt 99 n)

no_digit : (d m : ℤ) (n : ℕ) → d ≡ m → unsigned_abs m ≡ n → n % 10 ≢ 0 → unsigned_abs d % 10 ≢ 0
no_digit d m n e f h = λ z. h (ap (λ x. x % 10) (sym f ∙ ap unsigned_abs (sym e)) ∙ z)

not_zero_digits : (n : ℕ) → n % 10 ≢ 0 → n ≡ 0 → ⊥
not_zero_digits n h e = h (ap (λ x. x % 10) e)

-- a positive number of significant digits, or none
pub some_or_none : (n : ℕ) → (n ≡ 0) ⊎ (0 < n)
some_or_none zero = inl refl
some_or_none (suc n) = inr (omega arith)

no_length : (xs : List ℕ) → length xs ≡ 0 → xs ≡ []
no_length [] e = refl
no_length (x ∷ xs) e = absurd (omega (arith, e))

nothing_times : (n : ℕ) → 0 * n ≡ 0
nothing_times n = omega arith

pub signed_zero : (s : Sign) → signed s 0 ≡ pos 0
signed_zero unsigned = refl
signed_zero plus = refl
signed_zero minus = refl

-- the value where there are significant digits
value_of_some : (l : Literal) (negative : Bool) (t : Tally) (places : ℕ) (power : Power) (d : Decimal) → negative ≡ is_minus l.sign → IsTallyOf (mantissa_digits l) t → places ≡ length (fraction_digits l.fraction) → power.negative ≡ has_minus l.exponent → IsCapped (exponent_size l.exponent) power.size → IsValueOf negative t places power d → 0 < t.significant → IsDecimalOf l d
value_of_some l negative t places power d es ht ep en ec v some =
    let few = v.few in
    let number = ht.number few in
    let last = ht.last_digit few some in
    let size = capped_same (exponent_size l.exponent) power.size ec v.small in
    let digits = v.digits some in
    let written : signed_by power.negative power.size ≡ exponent_of l.exponent = ap (λ x. signed_by x power.size) en ∙ ap (λ x. signed_by (has_minus l.exponent) x) size ∙ exponent_is l.exponent in
    let whole : number_of (mantissa_digits l) ≡ t.number * 10 ^ t.zeros = number_is (mantissa_digits l) t ht ∙ ap (λ x. x * 10 ^ t.zeros) (sym number) in
    let product : signed l.sign (number_of (mantissa_digits l)) ≡ d.digits *ℤ pos (10 ^ t.zeros) =
    signed_is l.sign (number_of (mantissa_digits l)) ∙ ap (λ x. signed_by x (number_of (mantissa_digits l))) (sym es) ∙ ap (λ x. signed_by negative x) whole
    ∙ sym (signed_by-product negative t.number (10 ^ t.zeros)) ∙ ap (λ x. x *ℤ pos (10 ^ t.zeros)) (sym digits) in
    record {
      value = same_number d.digits d.exponent (signed l.sign (number_of (mantissa_digits l))) (exponent_of l.exponent -ℤ pos (length (fraction_digits l.fraction))) t.zeros
          (v.exponent some ∙ ap (λ x. (x -ℤ pos places) +ℤ pos t.zeros) written ∙ ap (λ x. (exponent_of l.exponent -ℤ pos x) +ℤ pos t.zeros) ep) product;
      no_trailing_zero = λ _. no_digit d.digits (signed_by negative t.number) t.number digits (signed_by-size negative t.number) last;
      zero = λ z. absurd (not_zero_digits t.number last (sym (signed_by-size negative t.number) ∙ ap unsigned_abs (sym digits ∙ z)));
    }

-- and where there are none
value_of_none : (l : Literal) (negative : Bool) (t : Tally) (places : ℕ) (power : Power) (d : Decimal) → IsTallyOf (mantissa_digits l) t → IsValueOf negative t places power d → t.significant ≡ 0 → IsDecimalOf l d
value_of_none l negative t places power d ht v none =
    let empty : ht.middle ≡ [] = no_length ht.middle (sym ht.significant ∙ none) in
    let whole : number_of (mantissa_digits l) ≡ 0 = number_is (mantissa_digits l) t ht ∙ ap (λ x. number_of x * 10 ^ t.zeros) empty ∙ nothing_times (10 ^ t.zeros) in
    let n : signed l.sign (number_of (mantissa_digits l)) ≡ pos 0 = ap (signed l.sign) whole ∙ signed_zero l.sign in
    record {
      value = let P : ℤ → Type 0 = λ x. SameNumber d.digits x (signed l.sign (number_of (mantissa_digits l))) (exponent_of l.exponent -ℤ pos (length (fraction_digits l.fraction))) in
          subst P (sym (v.no_exponent none)) (zero_same (exponent_of l.exponent -ℤ pos (length (fraction_digits l.fraction))) d.digits (signed l.sign (number_of (mantissa_digits l))) (v.no_digits none) n);
      no_trailing_zero = λ ne. absurd (ne (v.no_digits none));
      zero = λ _. v.no_exponent none;
    }

pub answer_from : (l : Literal) (negative : Bool) (t : Tally) (places : ℕ) (power : Power) (r : Result Decimal NumberFault) → negative ≡ is_minus l.sign → IsTallyOf (mantissa_digits l) t → places ≡ length (fraction_digits l.fraction) → power.negative ≡ has_minus l.exponent → IsCapped (exponent_size l.exponent) power.size → DecidesDecimal negative t places power r → IsAnswerTo l r
answer_from l negative t places power (Ok d) es ht ep en ec v =
    let count = significant_count (mantissa_digits l) t ht in
    let size = capped_same (exponent_size l.exponent) power.size ec v.small in (
      omega (arith, count, v.few),
      omega (arith, size, v.small),
      ⊎_elim (λ z. value_of_none l negative t places power d ht v z) (λ s. value_of_some l negative t places power d es ht ep en ec v s) (some_or_none t.significant),
    )
answer_from l negative t places power (Err (NotANumber p)) es ht ep en ec v = v
answer_from l negative t places power (Err TooManyDigits) es ht ep en ec v = omega (arith, significant_count (mantissa_digits l) t ht, v)
answer_from l negative t places power (Err ExponentTooLarge) es ht ep en ec v =
    (omega (arith, significant_count (mantissa_digits l) t ht, v.0), capped_large (exponent_size l.exponent) power.size ec v.1)

pub number_from : (text : List ℕ) (l : Literal) (r : Result Decimal NumberFault) → Spells text l → IsAnswerTo l r → IfOk r (IsNumber text)
number_from text l (Ok d) s a = record { literal = l; spells = s; few_digits = a.0; small_exponent = a.1; value = a.2 }
number_from text l (Err e) s a = tt

pub fault_from : (text : List ℕ) (l : Literal) (r : Result Decimal NumberFault) → Spells text l → IsAnswerTo l r → IfErr r (IsFaultOf text)
fault_from text l (Ok d) s a = tt
fault_from text l (Err (NotANumber p)) s a = absurd a
fault_from text l (Err TooManyDigits) s a = (l, s, a)
fault_from text l (Err ExponentTooLarge) s a = (l, s, a.0, a.1)

pub small_number : (ds : List ℕ) (t : Tally) → IsTallyOf ds t → t.significant ≤ 30 → t.number < 10 ^ 30
small_number ds t h few = let l = ten_le t.significant 30 few in omega (arith, h.below few, l)
