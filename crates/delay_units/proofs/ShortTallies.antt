-- The tally of digits by the number that they write.
use Rattle.std.proofs.Common.{◌≡◌, ◌≢◌, ℕ, zero, suc, ◌+◌, ◌-◌, ◌*◌, ◌%◌, ◌^◌, ◌<◌, ◌≤◌, ◌⊎◌, inl, inr, List, [], ◌∷◌, ◌++◌, length, replicate, sym, ap, ◌∙◌, refl, arith, append_assoc, subst, length-append, ⊎_elim, pos}
use Rattle.std.proofs.Math.Nat.{mul-le-mul_right, mul_assoc}
use Rattle.std.proofs.Math.IntN.{pos-*ℤ-pos}
use Rattle.std.proofs.lemmas.Bool.{cases_lt}
use Rattle.std.proofs.lemmas.Int.{ints}
use Rattle.std.proofs.lemmas.List.{append-nil, replicate-append-replicate, length-replicate}
use Rattle.delay_units.specs.Literal.{AreDigits, number_of}
use Rattle.delay_units.specs.Tallies.{NoZeroFirst, IsTallyOf}
use Rattle.delay_units.specs.declared.tally.Tally.{Tally}
use Rattle.delay_units.proofs.AnswerLemmas.{number_is, some_or_none}
use Rattle.delay_units.proofs.OneDecimal.{IsNormal, normal_same}
use Rattle.delay_units.proofs.PowerLemmas.{ten_suc, ten_le, ten_is_positive}
use Rattle.delay_units.proofs.TallyLemmas.{number_after, one_more_zero, first_significant, next_significant}

-- ---- digits have a tally

abbrev Tallied : List ℕ → Type 0
Tallied ds = (t : Tally) × IsTallyOf ds t

no_tally : Tallied []
no_tally = (
  record { number = 0; significant = 0; zeros = 0; digits = 0 },
  record {
    leading = 0;
    middle = [];
    split = refl;
    starts = tt;
    ends = tt;
    significant = refl;
    digits = refl;
    number = λ _. refl;
    below = λ _. omega arith;
    last_digit = λ _ some. absurd (omega (arith, some));
  },
)

pushed : (ds : List ℕ) (c : ℕ) → Tallied ds → 48 ≤ c → c ≤ 57 → Tallied (ds ++ c ∷ [])
pushed ds c (t, h) low high = by (cases_lt 48 c) (some_or_none t.significant)
  where
    by : (48 < c) ⊎ (c ≤ 48) → (t.significant ≡ 0) ⊎ (0 < t.significant) → Tallied (ds ++ c ∷ [])
    by (inr small) other =
        let is : c ≡ 48 = omega (arith, low, small) in
        let P : ℕ → Type 0 = λ x. Tallied (ds ++ x ∷ []) in
        subst P (sym is) (_, one_more_zero ds t h)
    by (inl more) (inl none) = (_, first_significant ds t c (omega (arith, more)) high none h)
    by (inl more) (inr some) = (_, next_significant ds t c (t.number * 10 ^ (t.zeros + 1) + (c - 48)) (omega (arith, more)) high some (λ _. refl) h)

tallied_behind : (before ds : List ℕ) → Tallied before → AreDigits ds → Tallied (before ++ ds)
tallied_behind before [] h d = subst Tallied (sym (append-nil before)) h
tallied_behind before (c ∷ cs) h d =
    subst Tallied (append_assoc before (c ∷ []) cs) (tallied_behind (before ++ c ∷ []) cs (pushed before c h d.0 d.1) d.2)

tallied : (ds : List ℕ) → AreDigits ds → Tallied ds
tallied ds d = tallied_behind [] ds no_tally d

-- ---- how large the number of digits is

digits_behind : (xs ys : List ℕ) → AreDigits (xs ++ ys) → AreDigits ys
digits_behind [] ys d = d
digits_behind (x ∷ xs) ys d = digits_behind xs ys d.2

digits_in_front : (xs ys : List ℕ) → AreDigits (xs ++ ys) → AreDigits xs
digits_in_front [] ys d = tt
digits_in_front (x ∷ xs) ys d = (d.0, d.1, digits_in_front xs ys d.2)

least_behind : (n : ℕ) (ds : List ℕ) → n * 10 ^ length ds ≤ number_after n ds
least_behind n [] = omega arith
least_behind n (c ∷ cs) =
    let more = least_behind (n * 10 + (c - 48)) cs in
    let grown : (n * 10) * 10 ^ length cs ≤ (n * 10 + (c - 48)) * 10 ^ length cs = mul-le-mul_right (10 ^ length cs) (omega arith) in
    let power : n * 10 ^ suc (length cs) ≡ (n * 10) * 10 ^ length cs =
    ap (λ x. n * x) (ten_suc (length cs) ∙ omega arith) ∙ sym (mul_assoc n 10 (10 ^ length cs)) in
    omega (arith, more, grown, power)

-- so many digits of which the first is no zero
front_least : (c : ℕ) (cs : List ℕ) → AreDigits (c ∷ cs) → NoZeroFirst (c ∷ cs) → 10 ^ length cs ≤ number_of (c ∷ cs)
front_least c cs d first =
    let low : 48 ≤ c = d.0 in
    let one : 1 ≤ 0 * 10 + (c - 48) = ⊎_elim (λ more. omega (arith, more)) (λ small. absurd (first (omega (arith, low, small)))) (cases_lt 48 c) in
    let grown : 1 * 10 ^ length cs ≤ (0 * 10 + (c - 48)) * 10 ^ length cs = mul-le-mul_right (10 ^ length cs) one in
    let least = least_behind (0 * 10 + (c - 48)) cs in
    omega (arith, grown, least)

no_factor : (a b : ℕ) → 1 ≤ b → a * b ≡ 0 → a ≡ 0
no_factor zero b some e = refl
no_factor (suc a) b some e =
    let g : b ≤ suc a * b = grind arith in
    absurd (omega (arith, g, some, e))

none_writes_zero : (ds : List ℕ) → AreDigits ds → NoZeroFirst ds → number_of ds ≡ 0 → ds ≡ []
none_writes_zero [] d first e = refl
none_writes_zero (c ∷ cs) d first e =
    let least = front_least c cs d first in
    let power = ten_is_positive (length cs) in
    absurd (omega (arith, least, power, e))

-- the count of the digits of a number
one_count : (n a b : ℕ) → 10 ^ a ≤ n → n < 10 * 10 ^ a → 10 ^ b ≤ n → n < 10 * 10 ^ b → a ≡ b
one_count n a b la ma lb mb =
    ⊎_elim (λ less. absurd (apart a b less ma lb))
    (λ ge. ⊎_elim (λ less. absurd (apart b a less mb la)) (λ le. omega (arith, ge, le)) (cases_lt b a))
    (cases_lt a b)
  where
    apart : (i j : ℕ) → i < j → n < 10 * 10 ^ i → 10 ^ j ≤ n → ⊥
    apart i j less most least =
        let p = ten_le (suc i) j (omega (arith, less)) in
        let q = ten_suc i in
        omega (arith, p, q, most, least)

-- ---- the tally of a number's digits

digits_of_middle : (ds : List ℕ) (t : Tally) → (h : IsTallyOf ds t) → AreDigits ds → AreDigits h.middle
digits_of_middle ds t h d =
    digits_in_front h.middle (replicate t.zeros 48) (digits_behind (replicate h.leading 48) (h.middle ++ replicate t.zeros 48) (subst AreDigits h.split d))

-- no more significant digits than digits
significant_within : (ds : List ℕ) (t : Tally) → IsTallyOf ds t → t.significant ≤ length ds
significant_within ds t h =
    let a = ap length h.split in
    let b = length-append (replicate h.leading 48) (h.middle ++ replicate t.zeros 48) in
    let c = length-append h.middle (replicate t.zeros 48) in
    let e = h.significant in
    omega (arith, a, b, c, e)

zeros_alone : (ds : List ℕ) (t : Tally) (h : IsTallyOf ds t) → h.middle ≡ [] → ds ≡ replicate (length ds) 48
zeros_alone ds t h none =
    let all : ds ≡ replicate (h.leading + t.zeros) 48 =
    h.split ∙ ap (λ x. replicate h.leading 48 ++ (x ++ replicate t.zeros 48)) none ∙ replicate-append-replicate h.leading t.zeros 48 in
    let count : length ds ≡ h.leading + t.zeros = ap length all ∙ length-replicate (h.leading + t.zeros) 48 in
    all ∙ ap (λ k. replicate k 48) (sym count)

pub tally_of_zeros : (ds : List ℕ) (n count : ℕ) → AreDigits ds → length ds ≡ count → n ≡ number_of ds → n ≡ 0 → IsTallyOf ds (record { number = 0; significant = 0; zeros = count; digits = count })
tally_of_zeros ds n count d size is none =
    let t : Tallied ds = tallied ds d in
    let h = t.1 in
    let product : number_of h.middle * 10 ^ t.0.zeros ≡ 0 = sym (number_is ds t.0 h) ∙ sym is ∙ none in
    let writes : number_of h.middle ≡ 0 = no_factor (number_of h.middle) (10 ^ t.0.zeros) (ten_is_positive t.0.zeros) product in
    let empty : h.middle ≡ [] = none_writes_zero h.middle (digits_of_middle ds t.0 h d) h.starts writes in
    record {
      leading = 0;
      middle = [];
      split = zeros_alone ds t.0 h empty ∙ ap (λ k. replicate k 48) size;
      starts = tt;
      ends = tt;
      significant = refl;
      digits = sym size;
      number = λ _. refl;
      below = λ _. omega arith;
      last_digit = λ _ some. absurd (omega (arith, some));
    }

normal : (m z : ℕ) → m % 10 ≢ 0 → IsNormal (pos m) (pos z)
normal m z last = record {
  no_trailing_zero = λ some. last;
  zero = λ e. let none : m ≡ 0 = cc in absurd (last (ap (λ x. x % 10) none));
}

same_parts : (m y n z : ℕ) → m % 10 ≢ 0 → n % 10 ≢ 0 → m * 10 ^ y ≡ n * 10 ^ z → (m ≡ n) × (y ≡ z)
same_parts m y n z lm ln e =
    let same = normal_same (pos m) (pos y) (pos n) (pos z) y z (normal m y lm) (normal n z ln) (pos-*ℤ-pos m (10 ^ y) ∙ ap pos e ∙ sym (pos-*ℤ-pos n (10 ^ z))) (omega (arith, ints)) in
    let a = same.0 in
    let b = same.1 in
    (omega (arith, ints, a), omega (arith, ints, b))

module _ (ds : List ℕ) (front zeros log : ℕ) (d : AreDigits ds) (few : length ds ≤ 18) (is : front * 10 ^ zeros ≡ number_of ds) (last : front % 10 ≢ 0) (least : 10 ^ log ≤ front) (most : front < 10 * 10 ^ log) (t : Tally) (h : IsTallyOf ds t) where
  some : 0 < t.significant
  some = ⊎_elim (λ none. absurd (never none)) (λ more. more) (some_or_none t.significant)
    where
      never : t.significant ≡ 0 → ⊥
      never none =
          let empty : number_of h.middle ≡ 0 = of_none h.middle (sym h.significant ∙ none) in
          let product : front * 10 ^ zeros ≡ 0 = is ∙ number_is ds t h ∙ ap (λ x. x * 10 ^ t.zeros) empty ∙ omega arith in
          let nothing : front ≡ 0 = no_factor front (10 ^ zeros) (ten_is_positive zeros) product in
          last (ap (λ x. x % 10) nothing)
        where
          of_none : (xs : List ℕ) → length xs ≡ 0 → number_of xs ≡ 0
          of_none [] e = refl
          of_none (x ∷ xs) e = absurd (omega (arith, e))

  few_significant : t.significant ≤ 30
  few_significant = let a = significant_within ds t h in omega (arith, a, few)

  parts : (front ≡ t.number) × (zeros ≡ t.zeros)
  parts = same_parts front zeros t.number t.zeros last (h.last_digit few_significant some) (is ∙ number_is ds t h ∙ ap (λ x. x * 10 ^ t.zeros) (sym (h.number few_significant)))

  count : log + 1 ≡ t.significant
  count = by h.middle refl
    where
      by : (middle : List ℕ) → h.middle ≡ middle → log + 1 ≡ t.significant
      by [] e =
          let a = h.significant in
          let b = ap length e in
          let c = some in
          absurd (omega (arith, a, b, c))
      by (c ∷ cs) e =
          let a = h.significant in
          let b = ap length e in
          let size : t.significant ≡ suc (length cs) = omega (arith, a, b) in
          let low : 10 ^ length cs ≤ number_of (c ∷ cs) = front_least c cs (subst AreDigits e (digits_of_middle ds t h d)) (subst NoZeroFirst e h.starts) in
          let whole : front ≡ number_of (c ∷ cs) = parts.0 ∙ h.number few_significant ∙ ap number_of e in
          let high : t.number < 10 ^ suc (length cs) = subst (λ (k : ℕ). t.number < 10 ^ k) size (h.below few_significant) in
          let p = ten_suc (length cs) in
          let f = parts.0 in
          let same = one_count front log (length cs) least most (omega (arith, low, whole)) (omega (arith, high, p, f)) in
          omega (arith, same, size)

  of_number : IsTallyOf ds (record { number = front; significant = log + 1; zeros = zeros; digits = length ds })
  of_number = record {
    leading = h.leading;
    middle = h.middle;
    split = h.split ∙ ap (λ k. replicate h.leading 48 ++ (h.middle ++ replicate k 48)) (sym parts.1);
    starts = h.starts;
    ends = h.ends;
    significant = count ∙ h.significant;
    digits = refl;
    number = λ _. parts.0 ∙ h.number few_significant;
    below = λ _. let p : 10 ^ (log + 1) ≡ 10 ^ log * 10 = ap (λ k. 10 ^ k) (omega arith) ∙ ten_suc log in omega (arith, p, most);
    last_digit = λ _ _. last;
  }

pub tally_of_number : (ds : List ℕ) (n count front zeros log : ℕ) → AreDigits ds → length ds ≡ count → count ≤ 18 → n ≡ number_of ds → n ≡ front * 10 ^ zeros → front % 10 ≢ 0 → 10 ^ log ≤ front → front < 10 * 10 ^ log
    → IsTallyOf ds (record { number = front; significant = log + 1; zeros = zeros; digits = count })
tally_of_number ds n count front zeros log d size few is splits last least most =
    let t : Tallied ds = tallied ds d in
    let P : ℕ → Type 0 = λ k. IsTallyOf ds (record { number = front; significant = log + 1; zeros = zeros; digits = k }) in
    subst P size (of_number ds front zeros log d (omega (arith, size, few)) (sym splits ∙ is) last least most t.0 t.1)

-- ---- a number without the zeros at its end

-- zeros are taken from the end
pub record EndsInZeros (n front zeros : ℕ) : Type 0 where
  pub splits : n ≡ front * 10 ^ zeros
  pub some : front ≢ 0
  pub room : front + zeros ≤ n

pub one_zero_more : (n front tenth zeros : ℕ) → EndsInZeros n front zeros → front ≡ tenth * 10 → EndsInZeros n tenth (zeros + 1)
one_zero_more n front tenth zeros h e = record {
  splits = h.splits ∙ ap (λ x. x * 10 ^ zeros) e ∙ mul_assoc tenth 10 (10 ^ zeros)
      ∙ ap (λ x. tenth * x) (let p : 10 ^ (zeros + 1) ≡ 10 ^ zeros * 10 = ap (λ k. 10 ^ k) (omega arith) ∙ ten_suc zeros in omega (arith, p));
  some = λ none. h.some (e ∙ ap (λ x. x * 10) none);
  room = let r = h.room in let s = ⊎_elim (λ z. absurd (h.some (e ∙ ap (λ x. x * 10) z))) (λ (p : 0 < tenth). p) (some_or_none tenth) in omega (arith, r, s, e);
}
