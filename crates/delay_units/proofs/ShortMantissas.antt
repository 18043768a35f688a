-- The mantissa of a text that begins with short digits.
use Rattle.std.proofs.Common.{◌≡◌, ℕ, ◌+◌, ◌-◌, ◌<◌, ◌≤◌, List, [], ◌∷◌, ◌++◌, length, sym, ap, ◌∙◌, refl, arith, append_assoc, length-append, subst, true, false, true≢false, ⊎_elim, Option, Some, None, Result}
use Rattle.std.proofs.lemmas.List.{append-nil}
use Rattle.delay_units.specs.Literal.{AreDigits, number_of, unsigned, fraction_text, fraction_digits}
use Rattle.delay_units.specs.LiteralFronts.{IsLiteralFront}
use Rattle.delay_units.specs.Parts.{NotFirst, SplitsSign, SplitsDigits, SplitsMantissa, SplitsExponent, IsPowerOf, DecidesDecimal, DecidesNumber}
use Rattle.delay_units.specs.ShortLiterals.{has_point, HasShortFront}
use Rattle.delay_units.specs.Tallies.{IsTallyOf}
use Rattle.delay_units.specs.declared.literal.Power.{Power}
use Rattle.delay_units.specs.declared.numbers.Decimal.{Decimal}
use Rattle.delay_units.specs.declared.numbers.NumberFault.{NumberFault}
use Rattle.delay_units.specs.declared.short_literals.Short.{Short}
use Rattle.delay_units.specs.declared.tally.Tally.{Tally}
use Rattle.delay_units.proofs.AnswerLemmas.{the_literal, spells_from, answer_from, some_or_none}
use Rattle.delay_units.proofs.FrontLemmas.{short_is_literal}
use Rattle.delay_units.proofs.FrontSteps.{leading_number, no_number, decides}
use Rattle.delay_units.proofs.LiteralLemmas.{some_not_none}
use Rattle.delay_units.proofs.OneLiteral.{mantissa_no_sign}

-- the digits that a text begins with
abbrev pub taken : {text rest : List ℕ} {short : Short} → HasShortFront text short rest → List ℕ
taken h = h.is_short.whole ++ fraction_digits h.is_short.fraction

AreDigits-append : (xs ys : List ℕ) → AreDigits xs → AreDigits ys → AreDigits (xs ++ ys)
AreDigits-append [] ys a b = b
AreDigits-append (x ∷ xs) ys a b = (a.0, a.1, AreDigits-append xs ys a.2 b)

pub taken_are_digits : (text rest : List ℕ) (short : Short) → (h : HasShortFront text short rest) → AreDigits (taken h)
taken_are_digits text rest short h = AreDigits-append h.is_short.whole (fraction_digits h.is_short.fraction) h.is_short.are_whole h.is_short.are_fraction

-- how many they are
pub taken_count : (text rest : List ℕ) (short : Short) → (h : HasShortFront text short rest) → short.pointed ≡ false → length (taken h) ≡ length text - length rest
taken_count text rest short h e = by h.is_short.whole h.is_short.fraction (h.split ∙ ap (λ x. x ++ rest) h.is_short.writes) (sym h.is_short.pointed ∙ e)
  where
    by : (whole : List ℕ) (fraction : Option (List ℕ)) → text ≡ (whole ++ fraction_text fraction) ++ rest → has_point fraction ≡ false → length (whole ++ fraction_digits fraction) ≡ length text - length rest
    by whole None split e = let a = ap length split in let b = length-append (whole ++ []) rest in omega (arith, a, b)
    by whole (Some ds) split e = absurd (true≢false e)

pub pointed_count : (text rest : List ℕ) (short : Short) → (h : HasShortFront text short rest) → short.pointed ≡ true → length (taken h) + 1 ≡ length text - length rest
pointed_count text rest short h e = by h.is_short.whole h.is_short.fraction (h.split ∙ ap (λ x. x ++ rest) h.is_short.writes) (sym h.is_short.pointed ∙ e)
  where
    by : (whole : List ℕ) (fraction : Option (List ℕ)) → text ≡ (whole ++ fraction_text fraction) ++ rest → has_point fraction ≡ true → length (whole ++ fraction_digits fraction) + 1 ≡ length text - length rest
    by whole None split e = absurd (true≢false (sym e))
    by whole (Some ds) split e =
        let a = ap length split in
        let b = length-append (whole ++ (46 ∷ ds)) rest in
        let c = length-append whole (46 ∷ ds) in
        let d = length-append whole ds in
        omega (arith, a, b, c, d)

-- the tally that is theirs
abbrev pub TalliesFor : ℕ → ℕ → Tally → Type 0
TalliesFor number count t = (ds : List ℕ) → AreDigits ds → length ds ≡ count → count ≤ 18 → number ≡ number_of ds → IsTallyOf ds t

pub taken_tally : (text rest : List ℕ) (short : Short) (t : Tally) (count : ℕ) → (h : HasShortFront text short rest) → length (taken h) ≡ count → TalliesFor short.digits count t → IsTallyOf (taken h) t
taken_tally text rest short t count h size of =
    let few = h.is_short.few_digits in
    of (taken h) (taken_are_digits text rest short h) size (omega (arith, size, few)) h.is_short.digits

pub pointed_tally : (text rest : List ℕ) (short : Short) (t : Tally) → (h : HasShortFront text short rest) → short.pointed ≡ true → TalliesFor short.digits (length text - length rest - 1) t → IsTallyOf (taken h) t
pointed_tally text rest short t h e of =
    let size = pointed_count text rest short h e in
    taken_tally text rest short t (length text - length rest - 1) h (omega (arith, size)) of

pub whole_tally : (text rest : List ℕ) (short : Short) (t : Tally) → (h : HasShortFront text short rest) → short.pointed ≡ false → TalliesFor short.digits (length text - length rest) t → IsTallyOf (taken h) t
whole_tally text rest short t h e of = taken_tally text rest short t (length text - length rest) h (taken_count text rest short h e) of

pub few_taken : (text rest : List ℕ) (short : Short) (t : Tally) → (h : HasShortFront text short rest) → IsTallyOf (taken h) t → t.digits ≤ 18
few_taken text rest short t h is = let a = h.is_short.few_digits in let b = is.digits in omega (arith, a, b)

pub rest_of : (before text rest : List ℕ) (t : Tally) → SplitsDigits before text t rest → length rest ≤ length text
rest_of before text rest t g = let a = ap length g.split in let b = length-append g.digits rest in omega (arith, a, b)

-- more digits behind a point and those behind it
pub pointed_mantissa : (text rest tail : List ℕ) (short : Short) (t : Tally) (places : ℕ) → (h : HasShortFront text short rest) → short.pointed ≡ true → SplitsDigits (taken h) rest t tail → places ≡ short.places + (length rest - length tail)
    → SplitsMantissa text t places tail
pointed_mantissa text rest tail short t places h e g counts =
    by h.is_short.whole h.is_short.fraction (h.split ∙ ap (λ x. x ++ rest) h.is_short.writes) h.is_short.are_whole h.is_short.are_fraction (sym h.is_short.pointed ∙ e) h.is_short.places g.tally
  where
    by : (whole : List ℕ) (fraction : Option (List ℕ)) → text ≡ (whole ++ fraction_text fraction) ++ rest → AreDigits whole → AreDigits (fraction_digits fraction) → has_point fraction ≡ true → short.places ≡ length (fraction_digits fraction)
        → IsTallyOf ((whole ++ fraction_digits fraction) ++ g.digits) t → SplitsMantissa text t places tail
    by whole None split dw df e p tally = absurd (true≢false (sym e))
    by whole (Some ds) split dw df e p tally = record {
      parts = record {
        whole = whole;
        fraction = Some (ds ++ g.digits);
        split = split ∙ append_assoc whole (46 ∷ ds) rest ∙ ap (λ x. whole ++ (46 ∷ x)) (ap (λ x. ds ++ x) g.split ∙ sym (append_assoc ds g.digits tail));
        whole_are_digits = dw;
        fraction_are_digits = AreDigits-append ds g.digits df g.are_digits;
        stops = g.stops;
        no_point = λ n. absurd (some_not_none (ds ++ g.digits) n);
      };
      tally = let P : List ℕ → Type 0 = λ x. IsTallyOf x t in subst P (append_assoc whole ds g.digits) tally;
      counted =
          let a = ap length g.split in
          let b = length-append g.digits tail in
          let c = length-append ds g.digits in
          omega (arith, counts, p, a, b, c);
    }

-- more digits in front of a point
pub whole_behind : (text rest tail : List ℕ) (short : Short) (t : Tally) → (h : HasShortFront text short rest) → short.pointed ≡ false → SplitsDigits (taken h) rest t tail → SplitsDigits [] text t tail
whole_behind text rest tail short t h e g =
    by h.is_short.whole h.is_short.fraction (h.split ∙ ap (λ x. x ++ rest) h.is_short.writes) h.is_short.are_whole (sym h.is_short.pointed ∙ e) g.tally
  where
    by : (whole : List ℕ) (fraction : Option (List ℕ)) → text ≡ (whole ++ fraction_text fraction) ++ rest → AreDigits whole → has_point fraction ≡ false
        → IsTallyOf ((whole ++ fraction_digits fraction) ++ g.digits) t → SplitsDigits [] text t tail
    by whole (Some ds) split dw e tally = absurd (true≢false e)
    by whole None split dw e tally = record {
      digits = whole ++ g.digits;
      split = split ∙ ap (λ x. x ++ rest) (append-nil whole) ∙ ap (λ x. whole ++ x) g.split ∙ sym (append_assoc whole g.digits tail);
      are_digits = AreDigits-append whole g.digits dw g.are_digits;
      stops = g.stops;
      tally = let P : List ℕ → Type 0 = λ x. IsTallyOf (x ++ g.digits) t in subst P (append-nil whole) tally;
    }

-- a text that begins so has no sign
pub short_unsigned : (text rest : List ℕ) (short : Short) → HasShortFront text short rest → SplitsSign text false text
short_unsigned text rest short h =
    let split : text ≡ h.is_short.whole ++ (fraction_text h.is_short.fraction ++ rest) =
    h.split ∙ ap (λ x. x ++ rest) h.is_short.writes ∙ append_assoc h.is_short.whole (fraction_text h.is_short.fraction) rest in
    let none = mantissa_no_sign h.is_short.whole h.is_short.fraction rest h.is_short.are_whole h.is_short.some_digit in
    let P : ℕ → List ℕ → Type 0 = λ n x. NotFirst n x in
    record {
      sign = unsigned;
      split = refl;
      sign_is = refl;
      no_plus = λ _. subst (P 43) (sym split) none.0;
      no_minus = λ _. subst (P 45) (sym split) none.1;
    }

-- and has a digit
pub some_mantissa : (text rest tail : List ℕ) (short : Short) (t : Tally) (places : ℕ) → HasShortFront text short rest → SplitsMantissa text t places tail → 0 < t.digits
some_mantissa text rest tail short t places h m =
    ⊎_elim (λ none. absurd (no_number text text tail false t places (short_unsigned text rest short h) m none h.front rest h.split (short_is_literal h.front short h.is_short)))
    (λ some. some)
    (some_or_none t.digits)

-- ---- the number

pub leading_behind : (text rest tail left : List ℕ) (short : Short) (t : Tally) (places : ℕ) (power : Power) (result : Result Decimal NumberFault) → HasShortFront text short rest → SplitsMantissa text t places tail
    → SplitsExponent tail power left → DecidesDecimal false t places power result → (front : List ℕ) × IsLiteralFront text front left × DecidesNumber front result
leading_behind text rest tail left short t places power result h m x is =
    leading_number text text tail left false t places power result (short_unsigned text rest short h) m (some_mantissa text rest tail short t places h m) x is

pub number_behind : (text rest tail : List ℕ) (short : Short) (t : Tally) (places : ℕ) (power : Power) (result : Result Decimal NumberFault) → HasShortFront text short rest → SplitsMantissa text t places tail
    → IsPowerOf tail power → DecidesDecimal false t places power result → DecidesNumber text result
number_behind text rest tail short t places power result h m p is =
    let s = short_unsigned text rest short h in
    decides text (the_literal s m p) result
    (spells_from text text tail false t places power s m (some_mantissa text rest tail short t places h m) p)
    (answer_from (the_literal s m p) false t places power result s.sign_is m.tally m.counted p.negative p.size is)
