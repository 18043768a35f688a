-- One more digit in a tally.
use Rattle.std.proofs.Common.{◌≡◌, ◌≢◌, ℕ, zero, suc, ◌+◌, ◌-◌, ◌*◌, ◌^◌, ◌<◌, ◌≤◌, List, [], ◌∷◌, ◌++◌, length, reverse, replicate, fold, sym, ap, ◌∙◌, refl, arith, append_assoc, subst, length-append, get_or, take, drop}
use Rattle.std.proofs.lemmas.List.{append-nil, replicate-append-replicate, reverse-append, length-replicate}
use Rattle.std.proofs.lemmas.List.Sums.{fold-append}
use Rattle.std.proofs.lemmas.Nat.{pow-add}
use Rattle.std.proofs.Math.Nat.{mul-le-mul_right, mul_assoc, mul_comm}
use Rattle.std.proofs.Math.Seq.{take-length}
use Rattle.delay_units.specs.Literal.{number_of, AreDigits}
use Rattle.delay_units.specs.Tallies.{NoZeroFirst, IsTallyOf}
use Rattle.delay_units.specs.declared.tally.Tally.{Tally}
use Rattle.delay_units.proofs.PowerLemmas.{ten_suc, ten_le, ten_is_positive}

-- the number that digits write behind those of n
abbrev pub number_after : ℕ → List ℕ → ℕ
number_after n ds = fold (λ n c. n * 10 + (c - 48)) n ds

pub number_after-zeros : (n z : ℕ) → number_after n (replicate z 48) ≡ n * 10 ^ z
number_after-zeros n zero = omega arith
number_after-zeros n (suc z) =
    let e : number_after n (replicate (suc z) 48) ≡ number_after (n * 10) (replicate z 48) = ap (λ m. number_after m (replicate z 48)) (omega arith) in
    let h = number_after-zeros (n * 10) z in
    let p = ten_suc z in
    let q : n * 10 * 10 ^ z ≡ n * 10 ^ suc z = ap (λ x. x) (mul_assoc n 10 (10 ^ z)) ∙ ap (λ x. n * x) (mul_comm 10 (10 ^ z) ∙ sym p) in
    e ∙ h ∙ q

pub number_of-grown : (middle : List ℕ) (z c : ℕ) → number_of (middle ++ (replicate z 48 ++ (c ∷ []))) ≡ number_of middle * 10 ^ z * 10 + (c - 48)
number_of-grown middle z c =
    fold-append (λ n c. n * 10 + (c - 48)) 0 middle (replicate z 48 ++ (c ∷ []))
    ∙ fold-append (λ n c. n * 10 + (c - 48)) (number_of middle) (replicate z 48) (c ∷ [])
    ∙ ap (λ m. m * 10 + (c - 48)) (number_after-zeros (number_of middle) z)

pub one_more_zero : (ds : List ℕ) (t : Tally) → IsTallyOf ds t → IsTallyOf (ds ++ 48 ∷ []) (record { number = t.number; significant = t.significant; zeros = t.zeros + 1; digits = t.digits + 1 })
one_more_zero ds t h = record {
  leading = h.leading;
  middle = h.middle;
  split = ap (λ x. x ++ 48 ∷ []) h.split ∙ append_assoc (replicate h.leading 48) (h.middle ++ replicate t.zeros 48) (48 ∷ [])
      ∙ ap (λ x. replicate h.leading 48 ++ x) (append_assoc h.middle (replicate t.zeros 48) (48 ∷ []))
      ∙ ap (λ x. replicate h.leading 48 ++ (h.middle ++ x)) (replicate-append-replicate t.zeros 1 48);
  starts = h.starts;
  ends = h.ends;
  significant = h.significant;
  digits = ap (λ x. x + 1) h.digits ∙ sym (length-append ds (48 ∷ []));
  number = h.number;
  below = h.below;
  last_digit = h.last_digit;
}

pub no_length : (xs : List ℕ) → length xs ≡ 0 → xs ≡ []
no_length [] e = refl
no_length (x ∷ xs) e = absurd (omega (arith, e))

pub first_significant : (ds : List ℕ) (t : Tally) (c : ℕ) → 49 ≤ c → c ≤ 57 → t.significant ≡ 0 → IsTallyOf ds t → IsTallyOf (ds ++ c ∷ []) (record { number = c - 48; significant = 1; zeros = 0; digits = t.digits + 1 })
first_significant ds t c low high none h =
    let empty : h.middle ≡ [] = no_length h.middle (sym h.significant ∙ none) in
    record {
      leading = h.leading + t.zeros;
      middle = c ∷ [];
      split = ap (λ x. x ++ c ∷ []) (h.split ∙ ap (λ x. replicate h.leading 48 ++ (x ++ replicate t.zeros 48)) empty ∙ replicate-append-replicate h.leading t.zeros 48);
      starts = λ e. omega (arith, low, e);
      ends = λ e. omega (arith, low, e);
      significant = refl;
      digits = ap (λ x. x + 1) h.digits ∙ sym (length-append ds (c ∷ []));
      number = λ _. omega arith;
      below = λ _. omega (arith, high);
      last_digit = λ _ _ e. omega (arith, low, high, e);
    }

still_starts : (middle more : List ℕ) → 0 < length middle → NoZeroFirst middle → NoZeroFirst (middle ++ more)
still_starts [] more some h = absurd (omega (arith, some))
still_starts (x ∷ xs) more some h = h

ends_so : (middle zeros : List ℕ) (c : ℕ) → c ≢ 48 → NoZeroFirst (reverse (middle ++ (zeros ++ (c ∷ []))))
ends_so middle zeros c ne =
    let e : reverse (middle ++ (zeros ++ (c ∷ []))) ≡ (c ∷ reverse zeros) ++ reverse middle =
    reverse-append middle (zeros ++ (c ∷ [])) ∙ ap (λ x. x ++ reverse middle) (reverse-append zeros (c ∷ [])) in
    subst NoZeroFirst (sym e) ne

product_room : (n a b d r : ℕ) → n < a → r ≡ a * b → d < b → n * b + d < r
product_room n a b d r small e digit =
    let l : suc n * b ≤ a * b = mul-le-mul_right b small in
    let m : suc n * b ≡ n * b + b = grind arith in
    omega (arith, l, m, e, digit)

grown_below : (n s z d : ℕ) → n < 10 ^ s → d < 10 → n * 10 ^ (z + 1) + d < 10 ^ (s + z + 1)
grown_below n s z d small digit =
    let p : 10 ^ (s + z + 1) ≡ 10 ^ s * 10 ^ (z + 1) = ap (λ x. 10 ^ x) (omega arith) ∙ pow-add 10 s (z + 1) in
    let t : 10 ^ (z + 1) ≡ 10 ^ z * 10 = ap (λ x. 10 ^ x) (omega arith) ∙ ten_suc z in
    let g = ten_is_positive z in
    product_room n (10 ^ s) (10 ^ (z + 1)) d (10 ^ (s + z + 1)) small p (omega (arith, t, g, digit))

regrouped : (s z : ℕ) → s + z + 1 ≡ s + (z + 1)
regrouped s z = omega arith

-- the number that the code makes of a digit behind zeros
shifted : (n z : ℕ) → n * 10 ^ (z + 1) ≡ n * 10 ^ z * 10
shifted n z = ap (λ x. n * x) (ap (λ x. 10 ^ x) (omega arith) ∙ ten_suc z) ∙ sym (mul_assoc n (10 ^ z) 10)

pub next_significant : (ds : List ℕ) (t : Tally) (c number : ℕ) → 49 ≤ c → c ≤ 57 → 0 < t.significant → (t.significant + (t.zeros + 1) ≤ 30 → number ≡ t.number * 10 ^ (t.zeros + 1) + (c - 48)) → IsTallyOf ds t → IsTallyOf (ds ++ c ∷ []) (record { number = number; significant = t.significant + (t.zeros + 1); zeros = 0; digits = t.digits + 1 })
next_significant ds t c number low high some made h =
    let room : t.significant + (t.zeros + 1) ≤ 30 → t.significant ≤ 30 = λ few. omega (arith, few) in
    record {
      leading = h.leading;
      middle = h.middle ++ (replicate t.zeros 48 ++ (c ∷ []));
      split = ap (λ x. x ++ c ∷ []) h.split ∙ append_assoc (replicate h.leading 48) (h.middle ++ replicate t.zeros 48) (c ∷ [])
          ∙ ap (λ x. replicate h.leading 48 ++ x) (append_assoc h.middle (replicate t.zeros 48) (c ∷ []) ∙ sym (append-nil (h.middle ++ (replicate t.zeros 48 ++ (c ∷ [])))));
      starts = still_starts h.middle (replicate t.zeros 48 ++ (c ∷ [])) (omega (arith, some, h.significant)) h.starts;
      ends = ends_so h.middle (replicate t.zeros 48) c (λ e. omega (arith, low, e));
      significant = ap (λ x. x + (t.zeros + 1)) h.significant
          ∙ sym (length-append h.middle (replicate t.zeros 48 ++ (c ∷ [])) ∙ ap (λ x. length h.middle + x) (length-append (replicate t.zeros 48) (c ∷ []) ∙ ap (λ x. x + 1) (length-replicate t.zeros 48)));
      digits = ap (λ x. x + 1) h.digits ∙ sym (length-append ds (c ∷ []));
      number = λ few. made few ∙ ap (λ x. x + (c - 48)) (shifted t.number t.zeros ∙ ap (λ x. x * 10 ^ t.zeros * 10) (h.number (room few)))
          ∙ sym (number_of-grown h.middle t.zeros c);
      below = λ few. omega (arith, made few, grown_below t.number t.significant t.zeros (c - 48) (h.below (room few)) (omega (arith, low, high)), ap (λ x. 10 ^ x) (regrouped t.significant t.zeros));
      last_digit = λ few _ e. omega (arith, made few, shifted t.number t.zeros, low, high, e);
    }

-- there is room for one more significant digit
pub room_for_digit : (ds : List ℕ) (t : Tally) (d : ℕ) → IsTallyOf ds t → t.significant + (t.zeros + 1) ≤ 30 → d < 10 → t.number * 10 ^ (t.zeros + 1) + d < 10 ^ 30
room_for_digit ds t d h few digit =
    let b = grown_below t.number t.significant t.zeros d (h.below (omega (arith, few))) digit in
    let l = ten_le (t.significant + t.zeros + 1) 30 (omega (arith, few)) in
    omega (arith, b, l)

-- the digits that a loop has taken from the front of the text
pub record TakenSoFar (start : Tally) (text : List ℕ) (t : Tally) (rest : List ℕ) : Type 0 where
  pub digits : List ℕ
  pub split : text ≡ digits ++ rest
  pub are_digits : AreDigits digits
  pub tally : (before : List ℕ) → IsTallyOf before start → IsTallyOf (before ++ digits) t

pub AreDigits-push : (ds : List ℕ) (c : ℕ) → AreDigits ds → 48 ≤ c → c ≤ 57 → AreDigits (ds ++ c ∷ [])
AreDigits-push [] c h low high = (low, high, tt)
AreDigits-push (d ∷ ds) c h low high = (h.0, h.1, AreDigits-push ds c h.2 low high)

pub nothing_taken : (start : Tally) (text : List ℕ) → TakenSoFar start text start text
nothing_taken start text = record {
  digits = [];
  split = refl;
  are_digits = tt;
  tally = λ before h. let P : List ℕ → Type 0 = λ x. IsTallyOf x start in subst P (sym (append-nil before)) h;
}

pub one_more_taken : (start : Tally) (text : List ℕ) (t t' : Tally) (c : ℕ) (rest : List ℕ) → TakenSoFar start text t (c ∷ rest) → 48 ≤ c → c ≤ 57 → ((ds : List ℕ) → IsTallyOf ds t → IsTallyOf (ds ++ c ∷ []) t') → TakenSoFar start text t' rest
one_more_taken start text t t' c rest h low high push = record {
  digits = h.digits ++ c ∷ [];
  split = h.split ∙ sym (append_assoc h.digits (c ∷ []) rest);
  are_digits = AreDigits-push h.digits c h.are_digits low high;
  tally = λ before b.
      let P : List ℕ → Type 0 = λ x. IsTallyOf x t' in
      subst P (append_assoc before h.digits (c ∷ [])) (push (before ++ h.digits) (h.tally before b));
}

-- the rest of a text that does not end, as a pattern takes it
pub rest_is : (c : ℕ) (cs : List ℕ) → take (length (c ∷ cs) - 1) (drop 1 (c ∷ cs)) ≡ cs
rest_is c cs = ap (λ n. take n cs) (omega arith) ∙ take-length cs

pub room_after : (rest : List ℕ) (a b : ℕ) → 1 ≤ length rest → b ≡ a + 1 → a + length rest < 2 ^ 64 → b + length (take (length rest - 1) (drop 1 rest)) < 2 ^ 64
room_after [] a b some e h = absurd (omega (arith, some))
room_after (c ∷ cs) a b some e h = let r = ap length (rest_is c cs) in omega (arith, r, e, h)

pub one_more_of : (start : Tally) (text : List ℕ) (t t' : Tally) (d : ℕ) (rest : List ℕ) → TakenSoFar start text t rest → 1 ≤ length rest → d ≡ get_or rest 0 0 → 48 ≤ d → d ≤ 57 → ((ds : List ℕ) → IsTallyOf ds t → IsTallyOf (ds ++ d ∷ []) t') → TakenSoFar start text t' (take (length rest - 1) (drop 1 rest))
one_more_of start text t t' d [] h some e low high push = absurd (omega (arith, some))
one_more_of start text t t' d (c ∷ cs) h some e low high push =
    let P : List ℕ → Type 0 = λ x. TakenSoFar start text t' x in
    let Q : ℕ → Type 0 = λ x. TakenSoFar start text t (x ∷ cs) in
    subst P (sym (rest_is c cs)) (one_more_taken start text t t' d cs (subst Q (sym e) h) low high push)
