-- The steps of reading a literal.
use Rattle.std.proofs.Common.{◌≡◌, ◌≢◌, ℕ, ◌+◌, ◌-◌, ◌*◌, ◌^◌, ◌<◌, ◌≤◌, List, [], ◌∷◌, ◌++◌, length, take, drop, get_or, sym, ap, ◌∙◌, refl, arith, append_assoc, subst, Bool, false, ⊎_elim, inl, inr, ◌⊎◌, Some, None, length-append}
use Rattle.std.proofs.lemmas.Bool.{cases_lt}
use Rattle.std.proofs.lemmas.List.Sums.{fold_push}
use Rattle.std.proofs.lemmas.List.{append-nil}
use Rattle.delay_units.specs.Literal.{AreDigits, number_of, sign_text}
use Rattle.delay_units.specs.Parts.{IsCapped, SplitsSign, SplitsDigits, DropsDigits, DropsMantissa, SplitsMantissa, SplitsSize, NotFirst, NoMarkFirst, BeginsWithMark, IsPowerOf, StopsIn, no_mark, no_end}
use Rattle.delay_units.specs.Tallies.{IsTallyOf}
use Rattle.delay_units.specs.declared.tally.Tally.{Tally}
use Rattle.delay_units.specs.declared.literal.Power.{Power}
use Rattle.delay_units.proofs.TallyLemmas.{AreDigits-push, rest_is}

-- the digits of an exponent that a loop has taken from the front of the text
pub record SizedSoFar (text : List ℕ) (size : ℕ) (rest : List ℕ) : Type 0 where
  pub digits : List ℕ
  pub split : text ≡ digits ++ rest
  pub are_digits : AreDigits digits
  pub capped : IsCapped (number_of digits) size

number_of-push : (ds : List ℕ) (c : ℕ) → number_of (ds ++ c ∷ []) ≡ number_of ds * 10 + (c - 48)
number_of-push ds c = fold_push (λ n c. n * 10 + (c - 48)) 0 ds c

not_both : (size : ℕ) → size ≤ 99 → 99 < size → ⊥
not_both size few many = omega (arith, few, many)

capped_more : (n size d : ℕ) → size ≤ 99 → d ≤ 9 → IsCapped n size → IsCapped (n * 10 + d) (size * 10 + d)
capped_more n size d few digit h =
    let same : size ≡ n = ⊎_elim (λ l. absurd (not_both size few (h.large l))) (λ l. h.small l) (cases_lt 99 n) in
    record { small = λ l. omega (arith, same); large = λ l. omega (arith, same, l) }

capped_still : (n size d : ℕ) → 99 < size → IsCapped n size → IsCapped (n * 10 + d) size
capped_still n size d many h =
    let e : n ≤ 99 → size ≡ n = h.small in
    let f : 99 < n → 99 < size = h.large in
    record { small = λ l. absurd (omega (arith, e, f, many, l)); large = λ l. many }

pub nothing_sized : (text : List ℕ) → SizedSoFar text 0 text
nothing_sized text = record { digits = []; split = refl; are_digits = tt; capped = record { small = λ _. refl; large = λ l. absurd (omega (arith, l)) } }

sized_with : (text : List ℕ) (size size' : ℕ) (c : ℕ) (cs : List ℕ) → (h : SizedSoFar text size (c ∷ cs)) → 48 ≤ c → c ≤ 57 → IsCapped (number_of h.digits * 10 + (c - 48)) size' → SizedSoFar text size' cs
sized_with text size size' c cs h low high capped = record {
  digits = h.digits ++ c ∷ [];
  split = h.split ∙ sym (append_assoc h.digits (c ∷ []) cs);
  are_digits = AreDigits-push h.digits c h.are_digits low high;
  capped = let P : ℕ → Type 0 = λ x. IsCapped x size' in subst P (sym (number_of-push h.digits c)) capped;
}

pub sized_more : (text : List ℕ) (size : ℕ) (d : ℕ) (rest : List ℕ) → SizedSoFar text size rest → 1 ≤ length rest → d ≡ get_or rest 0 0 → 48 ≤ d → d ≤ 57 → size ≤ 99 → SizedSoFar text (size * 10 + (d - 48)) (take (length rest - 1) (drop 1 rest))
sized_more text size d [] h some e low high few = absurd (omega (arith, some))
sized_more text size d (c ∷ cs) h some e low high few =
    let P : List ℕ → Type 0 = λ x. SizedSoFar text (size * 10 + (d - 48)) x in
    let Q : ℕ → Type 0 = λ x. SizedSoFar text size (x ∷ cs) in
    let g = subst Q (sym e) h in
    subst P (sym (rest_is c cs)) (sized_with text size (size * 10 + (d - 48)) d cs g low high (capped_more (number_of g.digits) size (d - 48) few (omega (arith, high)) g.capped))

pub sized_still : (text : List ℕ) (size : ℕ) (d : ℕ) (rest : List ℕ) → SizedSoFar text size rest → 1 ≤ length rest → d ≡ get_or rest 0 0 → 48 ≤ d → d ≤ 57 → 99 < size → SizedSoFar text size (take (length rest - 1) (drop 1 rest))
sized_still text size d [] h some e low high many = absurd (omega (arith, some))
sized_still text size d (c ∷ cs) h some e low high many =
    let P : List ℕ → Type 0 = λ x. SizedSoFar text size x in
    let Q : ℕ → Type 0 = λ x. SizedSoFar text size (x ∷ cs) in
    let g = subst Q (sym e) h in
    subst P (sym (rest_is c cs)) (sized_with text size size d cs g low high (capped_still (number_of g.digits) size (d - 48) many g.capped))

-- ---- the digits before the exponent

pub some_not_none : (xs : List ℕ) → Some xs ≡ None → ⊥
some_not_none xs e = cc

abbrev pub pointless : (text rest : List ℕ) → DropsDigits text rest → NotFirst 46 rest → DropsMantissa text rest
pointless text rest h np = record {
  whole = h.digits;
  fraction = None;
  split = h.split;
  whole_are_digits = h.are_digits;
  fraction_are_digits = tt;
  stops = h.stops;
  no_point = λ _. np;
}

abbrev pub pointed : (text rest fraction left : List ℕ) → DropsDigits text rest → rest ≡ 46 ∷ fraction → DropsDigits fraction left → DropsMantissa text left
pointed text rest fraction left h e g = record {
  whole = h.digits;
  fraction = Some g.digits;
  split = h.split ∙ ap (λ x. h.digits ++ x) (e ∙ ap (λ x. 46 ∷ x) g.split);
  whole_are_digits = h.are_digits;
  fraction_are_digits = g.are_digits;
  stops = g.stops;
  no_point = λ n. absurd (some_not_none g.digits n);
}

abbrev dropped : {before text rest : List ℕ} {t : Tally} → SplitsDigits before text t rest → DropsDigits text rest
dropped h = record { digits = h.digits; split = h.split; are_digits = h.are_digits; stops = h.stops }

pub whole_only : (text : List ℕ) (t : Tally) (rest : List ℕ) → SplitsDigits [] text t rest → NotFirst 46 rest → SplitsMantissa text t 0 rest
whole_only text t rest h np = record {
  parts = pointless text rest (dropped h) np;
  tally = let P : List ℕ → Type 0 = λ x. IsTallyOf x t in subst P (sym (append-nil h.digits)) h.tally;
  counted = refl;
}

pub with_fraction : (text : List ℕ) (t : Tally) (rest fraction : List ℕ) (t2 : Tally) (rest2 : List ℕ) → (h : SplitsDigits [] text t rest) → rest ≡ 46 ∷ fraction → SplitsDigits h.digits fraction t2 rest2 → SplitsMantissa text t2 (t2.digits - t.digits) rest2
with_fraction text t rest fraction t2 rest2 h e g = record {
  parts = pointed text rest fraction rest2 (dropped h) e (dropped g);
  tally = g.tally;
  counted = omega (arith, h.tally.digits, g.tally.digits, length-append h.digits g.digits);
}

pub digits_grow : (text : List ℕ) (t : Tally) (rest fraction : List ℕ) (t2 : Tally) (rest2 : List ℕ) → (h : SplitsDigits [] text t rest) → SplitsDigits h.digits fraction t2 rest2 → t.digits ≤ t2.digits
digits_grow text t rest fraction t2 rest2 h g = omega (arith, h.tally.digits, g.tally.digits, length-append h.digits g.digits)

pub fraction_has_room : (text : List ℕ) (t : Tally) (rest fraction : List ℕ) → SplitsDigits [] text t rest → rest ≡ 46 ∷ fraction → length text < 2 ^ 64 → t.digits + length fraction < 2 ^ 64
fraction_has_room text t rest fraction h e l = omega (arith, h.tally.digits, ap length h.split, length-append h.digits rest, ap length e, l)

-- ---- the exponent

no_mark_from : (text : List ℕ) → NotFirst 101 text → NotFirst 69 text → NoMarkFirst text
no_mark_from [] a b = tt
no_mark_from (c ∷ cs) a b = rw a b

pub no_exponent_is : (text : List ℕ) (power : Power) → text ≡ [] → power.negative ≡ false → power.size ≡ 0 → IsPowerOf text power
no_exponent_is text power e n s = record { exponent = None; split = e; formed = tt; negative = n; size = record { small = λ _. s; large = λ l. absurd (omega (arith, l)) } }

pub no_mark_stops : (text : List ℕ) → text ≢ [] → NoMarkFirst text → StopsIn text (length text)
no_mark_stops [] ne h = absurd (ne refl)
no_mark_stops (c ∷ cs) ne h = no_mark c cs refl h refl

some_length : (xs : List ℕ) → xs ≢ [] → 0 < length xs
some_length [] ne = absurd (ne refl)
some_length (x ∷ xs) ne = omega arith

pub exponent_read : (text signed digits rest : List ℕ) (negative : Bool) (size : ℕ) → BeginsWithMark text signed → SplitsSign signed negative digits → SplitsSize digits size rest → digits ≢ [] → rest ≡ [] → IsPowerOf text (record { negative = negative; size = size })
exponent_read text signed digits rest negative size m s z ne e = record {
  exponent = Some (record { mark = m.mark; sign = s.sign; digits = z.digits });
  split = m.split ∙ ap (λ x. m.mark ∷ x) (s.split ∙ ap (λ x. sign_text s.sign ++ x) (z.split ∙ ap (λ x. z.digits ++ x) e ∙ append-nil z.digits));
  formed = (m.is_e, z.are_digits, some_length z.digits (λ n. ne (z.split ∙ ap (λ x. x ++ rest) n ∙ e)));
  negative = s.sign_is;
  size = z.capped;
}

no_digits_in : (digits ds rest : List ℕ) → digits ≡ ds ++ rest → digits ≡ [] → 0 < length ds → ⊥
no_digits_in digits [] rest e n l = omega (arith, l)
no_digits_in digits (d ∷ ds) rest e n l = let f = ap length (sym e ∙ n) in omega (arith, f)

pub exponent_stops : (text signed digits rest : List ℕ) (negative : Bool) (size : ℕ) → BeginsWithMark text signed → SplitsSign signed negative digits → SplitsSize digits size rest → ((digits ≡ []) ⊎ (0 < length rest)) → StopsIn text (length rest)
exponent_stops text signed digits rest negative size m s z why =
    no_end (record { mark = m.mark; sign = s.sign; digits = z.digits }) rest
    (m.split ∙ ap (λ x. m.mark ∷ x) (s.split ∙ ap (λ x. sign_text s.sign ++ x) z.split))
    m.is_e z.are_digits z.stops
    (λ u. let P : List ℕ → Type 0 = λ x. NotFirst 43 x × NotFirst 45 x in subst P z.split (s.no_plus u, s.no_minus u))
    (λ l. ⊎_elim (λ n. absurd (no_digits_in digits z.digits rest z.split n l)) (λ g. g) why)
    refl

not_empty : (xs : List ℕ) → 0 < length xs → xs ≢ []
not_empty xs l e = let f = ap length e in omega (arith, f, l)

pub is_empty_lem : (xs : List ℕ) → length xs ≡ 0 → xs ≡ []
is_empty_lem [] l = refl
is_empty_lem (x ∷ xs) l = absurd (omega (arith, l))

pub no_mark_stops_at : (text : List ℕ) → 0 < length text → NoMarkFirst text → StopsIn text (length text)
no_mark_stops_at text l h = no_mark_stops text (not_empty text l) h

pub exponent_read_at : (text signed digits rest : List ℕ) (negative : Bool) (size : ℕ) → BeginsWithMark text signed → SplitsSign signed negative digits → SplitsSize digits size rest → 0 < length digits → length rest ≡ 0 → IsPowerOf text (record { negative = negative; size = size })
exponent_read_at text signed digits rest negative size m s z l e = exponent_read text signed digits rest negative size m s z (not_empty digits l) (is_empty_lem rest e)

pub no_digits_stop : (text signed digits rest : List ℕ) (negative : Bool) (size : ℕ) → BeginsWithMark text signed → SplitsSign signed negative digits → SplitsSize digits size rest → length digits ≡ 0 → StopsIn text (length rest)
no_digits_stop text signed digits rest negative size m s z e = exponent_stops text signed digits rest negative size m s z (inl (is_empty_lem digits e))

pub rest_stops : (text signed digits rest : List ℕ) (negative : Bool) (size : ℕ) → BeginsWithMark text signed → SplitsSign signed negative digits → SplitsSize digits size rest → 0 < length rest → StopsIn text (length rest)
rest_stops text signed digits rest negative size m s z l = exponent_stops text signed digits rest negative size m s z (inr l)
