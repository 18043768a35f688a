-- The digits of a short literal, one after another, and its reading.
use Rattle.std.proofs.Common.{◌≡◌, ◌≢◌, ℕ, zero, suc, ◌+◌, ◌-◌, ◌*◌, ◌%◌, ◌^◌, ◌<◌, ◌≤◌, ◌==◌, Bool, true, false, cond, List, [], ◌∷◌, ◌++◌, length, take, drop, get_or, reverse, Option, Some, None, ℤ, pos, negsuc, ◌+ℤ◌, ◌-ℤ◌, ◌*ℤ◌, ◌≤ℤ◌, neg_ℤ, unsigned_abs, sym, ap, ◌∙◌, refl, arith, append_assoc, subst, length-append, ⊎_elim, ◌⊎◌, inl, inr, IfSome}
use Rattle.std.specs.Option.{SomeIff}
use Rattle.std.proofs.lemmas.Bool.{cases_lt}
use Rattle.std.proofs.lemmas.Int.{ints}
use Rattle.std.proofs.lemmas.List.{append-nil, length-reverse}
use Rattle.std.proofs.lemmas.List.Sums.{fold_push, fold-append}
use Rattle.std.proofs.lemmas.Nat.{pow-add}
use lib.IntN.{pos-*ℤ-pos}
use Rattle.delay_units.specs.Literal.{Literal, unsigned, Spells, IsNumber, fraction_text, fraction_digits, number_of, significant, without_leading_zeros}
use Rattle.delay_units.specs.Reading.{IsRoundedPower, IsReading, ReadsAs}
use Rattle.delay_units.specs.declared.numbers.Decimal.{Decimal}
use Rattle.delay_units.specs.declared.numbers.Unit.{Unit}
use Rattle.delay_units.proofs.PowerLemmas.{ten_le, ten_suc, ten_is_positive, power_up}
use Rattle.delay_units.proofs.NormalNumbers.{strip}
use Rattle.delay_units.proofs.TallyLemmas.{AreDigits-push, rest_is}
use Rattle.delay_units.specs.ShortLiterals.{written_behind, TakesDigits, IsShort, HasShortFront}
use Rattle.delay_units.specs.declared.short_literals.Short.{Short}

behind_push : (before : ℕ) (digits : List ℕ) (c : ℕ) → written_behind before (digits ++ c ∷ []) ≡ written_behind before digits * 10 + (c - 48)
behind_push before digits c = fold_push (λ n c. n * 10 + (c - 48)) before digits c

-- one digit more
pub room : (number c k : ℕ) → number < 10 ^ (18 - suc k) → suc k ≤ 18 → c ≤ 57 → number * 10 + (c - 48) < 10 ^ (18 - k)
room number c k small few high =
    let e : 18 - k ≡ suc (18 - suc k) = omega (arith, few) in
    let p : 10 ^ (18 - k) ≡ 10 ^ (18 - suc k) * 10 = ap (λ n. 10 ^ n) e ∙ ten_suc (18 - suc k) in
    omega (arith, small, high, p)

taken_with : (before : ℕ) (text : List ℕ) (number c : ℕ) (cs : List ℕ) → TakesDigits before text number (c ∷ cs) → suc (length cs) ≤ 18 → 48 ≤ c → c ≤ 57 → TakesDigits before text (number * 10 + (c - 48)) cs
taken_with before text number c cs h few low high = record {
  digits = h.digits ++ c ∷ [];
  split = h.split ∙ sym (append_assoc h.digits (c ∷ []) cs);
  are_digits = AreDigits-push h.digits c h.are_digits low high;
  number_is = ap (λ n. n * 10 + (c - 48)) h.number_is ∙ sym (behind_push before h.digits c);
  small = room number c (length cs) h.small few high;
}

pub one_taken : (before : ℕ) (text : List ℕ) (number d : ℕ) (rest : List ℕ) → TakesDigits before text number rest → 1 ≤ length rest → length rest ≤ 18 → d ≡ get_or rest 0 0 → 48 ≤ d → d ≤ 57
    → TakesDigits before text (number * 10 + (d - 48)) (take (length rest - 1) (drop 1 rest))
one_taken before text number d [] h some few e low high = absurd (omega (arith, some))
one_taken before text number d (c ∷ cs) h some few e low high =
    let P : List ℕ → Type 0 = λ x. TakesDigits before text (number * 10 + (d - 48)) x in
    let Q : ℕ → Type 0 = λ x. TakesDigits before text number (x ∷ cs) in
    subst P (sym (rest_is c cs)) (taken_with before text number d cs (subst Q (sym e) h) few low high)

-- so few digits leave room for one more
pub is_small : (number k : ℕ) → number < 10 ^ (18 - k) → number < 10 ^ 18
is_small number k small = let p = ten_le (18 - k) 18 (omega arith) in omega (arith, small, p)

-- the rest of a text is no longer than it
pub no_longer : (before : ℕ) (text : List ℕ) (number : ℕ) (rest : List ℕ) → TakesDigits before text number rest → length rest ≤ length text
no_longer before text number rest h = let e = ap length h.split in let f = length-append h.digits rest in omega (arith, e, f)

-- ---- the whole literal

-- digits with a point among them, in front of the rest
pub pointed_short : (text rest fraction left : List ℕ) (whole number : ℕ) (short : Short) → TakesDigits 0 text whole rest → rest ≡ 46 ∷ fraction → TakesDigits whole fraction number left → length left + 1 ≢ length text
    → length text ≤ 18 → short.digits ≡ number → short.pointed ≡ true → short.places ≡ length fraction - length left → HasShortFront text short left
pointed_short text rest fraction left whole number short h point g some few digits pointed places = record {
  front = h.digits ++ (46 ∷ g.digits);
  split = split;
  is_short = record {
    whole = h.digits;
    fraction = Some g.digits;
    writes = refl;
    are_whole = h.are_digits;
    are_fraction = g.are_digits;
    some_digit = let a = length-append h.digits g.digits in let e = lengths in omega (arith, a, e, some);
    few_digits = let a = length-append h.digits g.digits in let e = lengths in omega (arith, a, e, few);
    digits = digits ∙ g.number_is ∙ ap (λ n. written_behind n g.digits) h.number_is ∙ sym (fold-append (λ n c. n * 10 + (c - 48)) 0 h.digits g.digits);
    small = let s = is_small number (length left) g.small in omega (arith, s, digits);
    pointed = pointed;
    places = let a = ap length g.split in let b = length-append g.digits left in omega (arith, places, a, b);
  };
}
  where
    split : text ≡ (h.digits ++ (46 ∷ g.digits)) ++ left
    split = h.split ∙ ap (λ x. h.digits ++ x) (point ∙ ap (λ x. 46 ∷ x) g.split) ∙ sym (append_assoc h.digits (46 ∷ g.digits) left)

    lengths : length text ≡ length h.digits + suc (length g.digits) + length left
    lengths = ap length split ∙ length-append (h.digits ++ (46 ∷ g.digits)) left ∙ ap (λ n. n + length left) (length-append h.digits (46 ∷ g.digits))

-- digits alone
pub pointless_short : (text rest : List ℕ) (whole : ℕ) (short : Short) → TakesDigits 0 text whole rest → length rest ≢ length text → length text ≤ 18 → short.digits ≡ whole → short.pointed ≡ false → short.places ≡ 0
    → HasShortFront text short rest
pointless_short text rest whole short h some few digits pointed places = record {
  front = h.digits;
  split = h.split;
  is_short = record {
    whole = h.digits;
    fraction = None;
    writes = sym (append-nil h.digits);
    are_whole = h.are_digits;
    are_fraction = tt;
    some_digit = let a = length-append h.digits [] in let e = lengths in omega (arith, a, e, some);
    few_digits = let a = length-append h.digits [] in let e = lengths in omega (arith, a, e, few);
    digits = digits ∙ h.number_is ∙ ap (written_behind 0) (sym (append-nil h.digits));
    small = let s = is_small whole (length rest) h.small in omega (arith, s, digits);
    pointed = pointed;
    places = places;
  };
}
  where
    lengths : length text ≡ length h.digits + length rest
    lengths = ap length h.split ∙ length-append h.digits rest

-- ---- what the code owes

pub below_limit : (number d : ℕ) (rest : List ℕ) → number < 10 ^ (18 - length rest) → 1 ≤ length rest → length rest ≤ 18 → d ≤ 57 → number * 10 + (d - 48) < 10 ^ 18
below_limit number d [] small some few high = absurd (omega (arith, some))
below_limit number d (c ∷ cs) small some few high = is_small (number * 10 + (d - 48)) (length cs) (room number d (length cs) small few high)

pub fewer : (rest : List ℕ) → length rest ≤ 18 → length (take (length rest - 1) (drop 1 rest)) ≤ 18
fewer [] few = omega arith
fewer (c ∷ cs) few = let e = ap length (rest_is c cs) in omega (arith, e, few)

pub positive : (k : ℕ) → 0 < 10 ^ k
positive k = let p = ten_is_positive k in omega (arith, p)

pub behind_whole : (text rest fraction : List ℕ) (whole : ℕ) → TakesDigits 0 text whole rest → rest ≡ 46 ∷ fraction → whole < 10 ^ (18 - length fraction)
behind_whole text rest fraction whole h point =
    let e = ap length point in
    let small = h.small in
    let p : 10 ^ (18 - length rest) ≤ 10 ^ (18 - length fraction) = ten_le (18 - length rest) (18 - length fraction) (omega (arith, e)) in
    omega (arith, small, p)

-- ---- the value of a short literal

positive_number : (n : ℕ) → n ≢ 0 → 0 < n
positive_number zero some = absurd (some refl)
positive_number (suc n) some = omega arith

zero_or : (n : ℕ) → (n ≡ 0) ⊎ (n ≢ 0)
zero_or zero = inl refl
zero_or (suc n) = inr (λ e. let f : suc n ≡ 0 = e in absurd (omega (arith, f)))

-- so few digits end in few zeros
few_zeros : (number front k : ℕ) → number ≡ front * 10 ^ k → front ≢ 0 → number < 10 ^ 18 → k ≤ 18
few_zeros number zero k e some small = absurd (some refl)
few_zeros number (suc front) k e some small =
    ⊎_elim (λ less. absurd (too_many less)) (λ few. few) (cases_lt 18 k)
  where
    too_many : 18 < k → ⊥
    too_many less =
        let p : 10 ^ 18 ≤ 10 ^ k = ten_le 18 k (omega (arith, less)) in
        let g : 10 ^ k ≤ suc front * 10 ^ k = grind arith in
        omega (arith, p, g, e, small)

without_no_longer : (digits : List ℕ) → length (without_leading_zeros digits) ≤ length digits
without_no_longer [] = omega arith
without_no_longer (c ∷ cs) = by (c == 48) (without_no_longer cs)
  where
    by : (zero : Bool) → length (without_leading_zeros cs) ≤ length cs → length (cond zero (without_leading_zeros cs) (c ∷ cs)) ≤ length (c ∷ cs)
    by true h = omega (arith, h)
    by false h = omega arith

pub few_significant : (digits : List ℕ) → length (significant digits) ≤ length digits
few_significant digits =
    let a = without_no_longer digits in
    let b = length-reverse (without_leading_zeros digits) in
    let c = without_no_longer (reverse (without_leading_zeros digits)) in
    let d = length-reverse (without_leading_zeros (reverse (without_leading_zeros digits))) in
    omega (arith, a, b, c, d)

small_size : (z p : ℕ) → z ≤ 18 → p ≤ 18 → unsigned_abs (pos z -ℤ pos p) ≤ 2 ^ 65
small_size z p few some = let b = unsigned_abs-sub z p in omega (arith, b, few, some)
  where
    unsigned_abs-sub : (z p : ℕ) → unsigned_abs (pos z -ℤ pos p) ≤ z + p
    unsigned_abs-sub z p = of_size (pos z -ℤ pos p) (omega (arith, ints)) (omega (arith, ints))
      where
        of_size : (x : ℤ) → x ≤ℤ pos (z + p) → neg_ℤ (pos (z + p)) ≤ℤ x → unsigned_abs x ≤ z + p
        of_size (pos n) high low = omega (arith, ints, high)
        of_size (negsuc n) high low = omega (arith, ints, low)

regrouped : (m t u w : ℕ) → ((m * t) * u) * w ≡ (m * u) * (t * w)
regrouped m t u w = omega arith

module _ (unit : Unit) (text : List ℕ) (short : Short) (is : IsShort text short) (m z power grains : ℕ)
    (digits : short.digits ≡ m * 10 ^ z) (ends : m ≢ 0 → m % 10 ≢ 0) (nothing : m ≡ 0 → z ≡ short.places) (few : z ≤ 18)
    (exponent : unit.exponent ≡ pos (short.places + power)) (value : grains ≡ (short.digits * unit.mantissa) * 10 ^ power) where
  all_digits : List ℕ
  all_digits = is.whole ++ fraction_digits is.fraction

  few_places : short.places ≤ 18
  few_places =
      let e = length-append is.whole (fraction_digits is.fraction) in
      let f = is.few_digits in
      let p = is.places in
      omega (arith, e, f, p)

  small_front : m < 10 ^ 30
  small_front =
      let g : m ≤ m * 10 ^ z = let p = ten_is_positive z in grind arith in
      let s = is.small in
      omega (arith, g, s, digits)

  number : Decimal
  number = record { digits = pos m; exponent = pos z -ℤ pos short.places; digits_fit = small_front; exponent_fits = small_size z short.places few few_places }

  literal : Literal
  literal = record { sign = unsigned; whole = is.whole; fraction = is.fraction; exponent = None }

  spells : Spells text literal
  unfolding literal
  spells = record {
    writes = is.writes ∙ ap (λ x. is.whole ++ x) (sym (append-nil (fraction_text is.fraction)));
    whole = is.are_whole;
    fraction = is.are_fraction;
    some_digit = is.some_digit;
    exponent = tt;
  }

  same_digits : pos m *ℤ pos (10 ^ z) ≡ pos (number_of all_digits) *ℤ pos (10 ^ 0)
  unfolding all_digits
  same_digits =
      let one : number_of all_digits ≡ number_of all_digits * 10 ^ 0 = omega arith in
      pos-*ℤ-pos m (10 ^ z) ∙ ap pos (sym digits ∙ is.digits ∙ one) ∙ sym (pos-*ℤ-pos (number_of all_digits) (10 ^ 0))

  same_power : ((pos z -ℤ pos short.places) -ℤ pos z) ≡ ((pos 0 -ℤ pos (length (fraction_digits is.fraction))) -ℤ pos 0)
  same_power = let p = is.places in omega (arith, ints, p)

  of_number : IsNumber text number
  unfolding literal number all_digits
  of_number = record {
    literal = literal;
    spells = spells;
    few_digits = let a = few_significant all_digits in let b = is.few_digits in omega (arith, a, b);
    small_exponent = omega arith;
    value = record {
      value = (z, 0, same_power, same_digits);
      no_trailing_zero = λ some. ends (λ e. some (ap pos e));
      zero = λ e. let f : m ≡ 0 = cc in let g = nothing f in omega (arith, ints, g);
    };
  }

  grains_are : pos grains ≡ (pos m *ℤ pos unit.mantissa) *ℤ pos (10 ^ (z + power))
  grains_are =
      ap pos (value ∙ ap (λ x. (x * unit.mantissa) * 10 ^ power) digits ∙ regrouped m (10 ^ z) unit.mantissa (10 ^ power) ∙ ap (λ x. (m * unit.mantissa) * x) (sym (pow-add 10 z power)))
      ∙ sym (ap (λ x. x *ℤ pos (10 ^ (z + power))) (pos-*ℤ-pos m unit.mantissa) ∙ pos-*ℤ-pos (m * unit.mantissa) (10 ^ (z + power)))

  rounded : IsReading number unit (pos grains)
  unfolding number
  rounded =
      let whole : (pos z -ℤ pos short.places) +ℤ unit.exponent ≡ pos (z + power) = omega (arith, ints, exponent) in
      subst (λ x. IsRoundedPower (pos m *ℤ pos unit.mantissa) x (pos grains)) (sym whole)
      (power_up (pos m *ℤ pos unit.mantissa) (pos (z + power)) (pos grains) (omega (arith, ints)) grains_are)

  reads : ReadsAs unit text (pos grains)
  reads = record { number = number; reads = of_number; rounded = rounded }

-- the reading of a short literal in a unit that leaves no fraction
pub short_reads : (unit : Unit) (text : List ℕ) (short : Short) (power grains : ℕ) → IsShort text short → unit.exponent ≡ pos (short.places + power) → grains ≡ (short.digits * unit.mantissa) * 10 ^ power → ReadsAs unit text (pos grains)
short_reads unit text short power grains is exponent value =
    ⊎_elim
    (λ none.
    let zero_is : short.digits ≡ 0 * 10 ^ short.places = none ∙ omega arith in
    let places : short.places ≤ 18 = let e = length-append is.whole (fraction_digits is.fraction) in let f = is.few_digits in let p = is.places in omega (arith, e, f, p) in
    reads unit text short is 0 short.places power grains zero_is (λ some. absurd (some refl)) (λ e. refl) places exponent value)
    (λ some.
    let n = strip short.digits short.digits (omega arith) (positive_number short.digits some) in
    let front : n.digits ≢ 0 = λ (z : n.digits ≡ 0). n.last (ap (λ x. x % 10) z) in
    reads unit text short is n.digits n.zeros power grains n.splits (λ e. n.last) (λ z. absurd (front z)) (few_zeros short.digits n.digits n.zeros n.splits front is.small) exponent value)
    (zero_or short.digits)

-- what the code multiplies is that reading
pub short_product : (unit : Unit) (text : List ℕ) (short : Short) (power product tens : ℕ) (r : Option ℕ) (P : Type 0) → IsShort text short → unit.exponent ≡ pos (short.places + power)
    → product ≡ short.digits * unit.mantissa → tens ≡ 10 ^ power → SomeIff r P (product * tens) → IfSome r (λ grains. ReadsAs unit text (pos grains))
short_product unit text short power product tens None P is exponent e f some = search
short_product unit text short power product tens (Some grains) P is exponent e f some =
    short_reads unit text short power grains is exponent (some.1 ∙ ap (λ x. x * tens) e ∙ ap (λ x. (short.digits * unit.mantissa) * x) f)
