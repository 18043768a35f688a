-- The longest front of a text that is a literal: from the place behind it, no more bytes lead to one where a literal may end.
use Rattle.std.proofs.Common.{◌≡◌, ℕ, ◌<◌, ◌≤◌, List, [], ◌∷◌, ◌++◌, length, sym, ap, ◌∙◌, refl, arith, append_assoc, length-append, subst, Bool, false, true≢false, Option, Some, None}
use Rattle.std.proofs.lemmas.List.{append-nil}
use Rattle.delay_units.specs.Literal.{AreDigits, Sign, unsigned, plus, minus, sign_text, Exponent, fraction_text, fraction_digits, exponent_text, IsExponent, IsLiteral}
use Rattle.delay_units.specs.LiteralFronts.{IsLiteralFront, HasNoLiteralFront}
use Rattle.delay_units.specs.Parts.{IsStuck, NoDigitFirst, NotFirst, NoMarkFirst, SplitsSign, DropsMantissa, StopsExponent, no_more, unmarked, no_digit, SplitsExponent}
use Rattle.delay_units.specs.Places.{Place, at_start, past_sign, past_point, past_mark, past_exponent_sign, in_exponent, place_after, place_behind, may_end, ends_literal, is_literal}
use Rattle.delay_units.specs.ShortLiterals.{IsShort, EndsPlainly}
use Rattle.delay_units.specs.declared.literal.Power.{Power}
use Rattle.delay_units.specs.declared.short_literals.Short.{Short}
use Rattle.delay_units.proofs.LiteralShape.{literal_ends}
use Rattle.delay_units.proofs.PlaceLemmas.{Leads, leads_then, none_stays, behind-append, le_of_not, regrouped, place_past_sign, place_past_mantissa, sign_then_point, front_leads, exponent_leads, mark_leads}
use Rattle.delay_units.proofs.StopLemmas.{stuck_past_sign, stuck_past_point, stuck_past_mantissa, stuck_past_exponent_sign, stuck_in_exponent}

-- no bytes in front of the text lead from the place to one where a literal may end
abbrev pub NoEnd : Place → List ℕ → Type 0
NoEnd p text = (c : ℕ) (more left : List ℕ) → text ≡ (c ∷ more) ++ left → ends_literal (place_behind (Some p) (c ∷ more)) ≡ false

nothing : (p : Place) → NoEnd p []
nothing p c more left e = cc

stuck : (p : Place) (x : ℕ) (xs : List ℕ) → place_after p x ≡ None → NoEnd p (x ∷ xs)
stuck p x xs none c more left e =
    let same : c ≡ x = cc in
    ap (λ y. ends_literal (place_behind (place_after p y) more)) same ∙ ap (λ q. ends_literal (place_behind q more)) none
    ∙ ap ends_literal (none_stays more)

stuck_in_front : (p : Place) (rest : List ℕ) → IsStuck p rest → NoEnd p rest
stuck_in_front p [] is = nothing p
stuck_in_front p (x ∷ xs) is = stuck p x xs is

one_step : (p q : Place) (x : ℕ) (xs : List ℕ) → place_after p x ≡ Some q → may_end q ≡ false → NoEnd q xs → NoEnd p (x ∷ xs)
one_step p q x xs after inside further c [] left e =
    let same : c ≡ x = cc in
    ap (λ y. ends_literal (place_after p y)) same ∙ ap ends_literal after ∙ inside
one_step p q x xs after inside further c (m ∷ ms) left e =
    let same : c ≡ x = cc in
    let tail : xs ≡ (m ∷ ms) ++ left = cc in
    ap (λ y. ends_literal (place_behind (place_after p y) (m ∷ ms))) same ∙ ap (λ z. ends_literal (place_behind z (m ∷ ms))) after ∙ further m ms left tail

-- ---- behind a whole literal

in_exponent_ends : (rest : List ℕ) → NoDigitFirst rest → NoEnd in_exponent rest
in_exponent_ends [] d = nothing in_exponent
in_exponent_ends (c ∷ cs) d = stuck in_exponent c cs (stuck_in_exponent (c ∷ cs) d (omega arith))

unmarked_ends : (fraction : Option (List ℕ)) (rest : List ℕ) → NoDigitFirst rest → (fraction ≡ None → NotFirst 46 rest) → NoMarkFirst rest → NoEnd (place_past_mantissa fraction) rest
unmarked_ends fraction [] d np m = nothing (place_past_mantissa fraction)
unmarked_ends fraction (c ∷ cs) d np m = stuck (place_past_mantissa fraction) c cs (stuck_past_mantissa fraction c cs d np m)

sign_ends : (sign : Sign) (left : List ℕ) → NoDigitFirst left → (sign ≡ unsigned → NotFirst 43 left × NotFirst 45 left) → NoEnd past_mark (sign_text sign ++ left)
sign_ends unsigned left d signs = stuck_in_front past_mark left (stuck_past_exponent_sign unsigned left d signs)
sign_ends plus left d signs = one_step past_mark past_exponent_sign 43 left refl refl (stuck_in_front past_exponent_sign left (stuck_past_exponent_sign plus left d signs))
sign_ends minus left d signs = one_step past_mark past_exponent_sign 45 left refl refl (stuck_in_front past_exponent_sign left (stuck_past_exponent_sign minus left d signs))

abbrev place_past_exponent : Option (List ℕ) → Option Exponent → Place
place_past_exponent fraction None = place_past_mantissa fraction
place_past_exponent fraction (Some e) = in_exponent

literal_stops : (fraction : Option (List ℕ)) (x : Option Exponent) (text rest : List ℕ) → text ≡ exponent_text x ++ rest → NoDigitFirst text → (fraction ≡ None → NotFirst 46 text) → StopsExponent x rest → NoEnd (place_past_exponent fraction x) rest
literal_stops fraction (Some e) text rest split d np (no_more e' none) = in_exponent_ends rest none
literal_stops fraction None text rest split d np (unmarked m) =
    let P : List ℕ → Type 0 = λ x. NoDigitFirst x in
    let Q : List ℕ → Type 0 = λ x. NotFirst 46 x in
    unmarked_ends fraction rest (subst P split d) (λ n. subst Q split (np n)) m
literal_stops fraction None text rest split d np (no_digit mark sign left e is_e none signs) =
    let P : List ℕ → Type 0 = λ x. NoEnd (place_past_mantissa fraction) x in
    subst P (sym e) (one_step (place_past_mantissa fraction) past_mark mark (sign_text sign ++ left) (mark_leads fraction mark is_e) refl (sign_ends sign left none signs))

literal_leads_to : (s : Sign) (whole : List ℕ) (fraction : Option (List ℕ)) (x : Option Exponent) → AreDigits whole → AreDigits (fraction_digits fraction) → 0 < length (whole ++ fraction_digits fraction) → IsExponent x
    → Leads at_start (sign_text s ++ (whole ++ (fraction_text fraction ++ exponent_text x))) (place_past_exponent fraction x)
literal_leads_to s whole fraction None hw hf some hx =
    ap (λ y. place_behind (Some at_start) (sign_text s ++ (whole ++ y))) (append-nil (fraction_text fraction)) ∙ front_leads s whole fraction hw hf some
literal_leads_to s whole fraction (Some e) hw hf some hx =
    ap (λ y. place_behind (Some at_start) y) (regrouped (sign_text s) whole (fraction_text fraction) (exponent_text (Some e)))
    ∙ leads_then at_start (sign_text s ++ (whole ++ fraction_text fraction)) (place_past_mantissa fraction) (exponent_text (Some e)) in_exponent
    (front_leads s whole fraction hw hf some) (exponent_leads fraction e hx.0 hx.1 hx.2)

-- ---- the longest front

-- the longer of two fronts of a text is the other and some bytes of its rest
longer : (front rest other left : List ℕ) → front ++ rest ≡ other ++ left → length front < length other
    → (c : ℕ) × (more : List ℕ) × (other ≡ front ++ (c ∷ more)) × (rest ≡ (c ∷ more) ++ left)
longer front rest [] left e l = absurd (omega (arith, l))
longer [] rest (x ∷ xs) left e l = (x, xs, refl, e)
longer (f ∷ fs) rest (x ∷ xs) left e l =
    let same : x ≡ f = cc in
    let tail : fs ++ rest ≡ xs ++ left = cc in
    let n = longer fs rest xs left tail (omega (arith, l)) in
    (n.0, n.1, ap (λ y. y ∷ xs) same ∙ ap (λ y. f ∷ y) n.2, n.3)

longest_front : (text front rest : List ℕ) (q : Place) → text ≡ front ++ rest → Leads at_start front q → NoEnd q rest → (other left : List ℕ) → text ≡ other ++ left → IsLiteral other → length other ≤ length front
unfolding is_literal
longest_front text front rest q split leads none other left e is = le_of_not (length other) (length front) (λ less.
    let n = longer front rest other left (sym split ∙ e) less in
    true≢false (
    sym (literal_ends other is)
    ∙ ap (λ y. ends_literal (place_behind (Some at_start) y)) n.2
    ∙ ap ends_literal (behind-append (Some at_start) front (n.0 ∷ n.1))
    ∙ ap (λ y. ends_literal (place_behind y (n.0 ∷ n.1))) leads
    ∙ none n.0 n.1 left n.3))

-- the literal with these parts is the front of the text
pub front_of_parts : (text u r rest : List ℕ) (negative : Bool) (power : Power) → (s : SplitsSign text negative u) → (m : DropsMantissa u r) → 0 < length (m.whole ++ fraction_digits m.fraction) → (x : SplitsExponent r power rest)
    → IsLiteralFront text (sign_text s.sign ++ (m.whole ++ (fraction_text m.fraction ++ exponent_text x.exponent))) rest
front_of_parts text u r rest negative power s m some x = record {
  split = whole;
  literal = (
    record { sign = s.sign; whole = m.whole; fraction = m.fraction; exponent = x.exponent },
    record { writes = refl; whole = m.whole_are_digits; fraction = m.fraction_are_digits; some_digit = some; exponent = x.formed },
  );
  longest = longest_front text _ rest (place_past_exponent m.fraction x.exponent) whole
      (literal_leads_to s.sign m.whole m.fraction x.exponent m.whole_are_digits m.fraction_are_digits some x.formed)
      (literal_stops m.fraction x.exponent r rest x.split m.stops m.no_point x.stops);
}
  where
    whole : text ≡ (sign_text s.sign ++ (m.whole ++ (fraction_text m.fraction ++ exponent_text x.exponent))) ++ rest
    whole =
        s.split ∙ ap (λ y. sign_text s.sign ++ y) (m.split ∙ ap (λ y. m.whole ++ (fraction_text m.fraction ++ y)) x.split
        ∙ ap (λ y. m.whole ++ y) (sym (append_assoc (fraction_text m.fraction) (exponent_text x.exponent) rest))
        ∙ sym (append_assoc m.whole (fraction_text m.fraction ++ exponent_text x.exponent) rest))
        ∙ sym (append_assoc (sign_text s.sign) (m.whole ++ (fraction_text m.fraction ++ exponent_text x.exponent)) rest)

-- digits with at most one point are a literal, and the front where the rest goes on with none of a digit, a point and a mark
pub short_is_literal : (text : List ℕ) (short : Short) → IsShort text short → IsLiteral text
short_is_literal text short is = (
  record { sign = unsigned; whole = is.whole; fraction = is.fraction; exponent = None },
  record {
    writes = is.writes ∙ ap (λ y. is.whole ++ y) (sym (append-nil (fraction_text is.fraction)));
    whole = is.are_whole;
    fraction = is.are_fraction;
    some_digit = is.some_digit;
    exponent = tt;
  },
)

pub plain_front : (text front rest : List ℕ) (short : Short) → text ≡ front ++ rest → IsShort front short → EndsPlainly rest → IsLiteralFront text front rest
plain_front text front rest short split is ends = record {
  split = split;
  literal = short_is_literal front short is;
  longest = longest_front text front rest (place_past_mantissa is.fraction) split
      (ap (place_behind (Some at_start)) is.writes ∙ front_leads unsigned is.whole is.fraction is.are_whole is.are_fraction is.some_digit)
      (unmarked_ends is.fraction rest ends.0 (λ _. ends.1) ends.2);
}

-- ---- no front

no_literal_in_front : (text : List ℕ) → NoEnd at_start text → HasNoLiteralFront text
unfolding is_literal
no_literal_in_front text none [] rest e is = true≢false (sym (literal_ends [] is))
no_literal_in_front text none (c ∷ more) rest e is = true≢false (sym (literal_ends (c ∷ more) is) ∙ none c more rest e)

behind_sign : (s : Sign) (u : List ℕ) → NoEnd (place_past_sign s) u → NoEnd at_start (sign_text s ++ u)
behind_sign unsigned u none = none
behind_sign plus u none = one_step at_start past_sign 43 u refl refl none
behind_sign minus u none = one_step at_start past_sign 45 u refl refl none

no_digit_ends : (u rest : List ℕ) (s : Sign) (whole : List ℕ) (fraction : Option (List ℕ)) → u ≡ whole ++ (fraction_text fraction ++ rest) → length (whole ++ fraction_digits fraction) ≡ 0 → NoDigitFirst rest → (fraction ≡ None → NotFirst 46 rest)
    → (s ≡ unsigned → NotFirst 43 u) → (s ≡ unsigned → NotFirst 45 u) → NoEnd (place_past_sign s) u
no_digit_ends u rest s (w ∷ ws) fraction e none d np a b = absurd (omega (arith, none))
no_digit_ends u rest s [] (Some (f ∷ fs)) e none d np a b = absurd (omega (arith, none))
no_digit_ends u rest s [] None e none d np a b =
    let P : List ℕ → Type 0 = λ x. NoEnd (place_past_sign s) x in
    let Q : ℕ → List ℕ → Type 0 = λ n x. NotFirst n x in
    subst P (sym e) (stuck_in_front (place_past_sign s) rest (stuck_past_sign s rest d (np refl) (λ i. subst (Q 43) e (a i)) (λ i. subst (Q 45) e (b i))))
no_digit_ends u rest s [] (Some []) e none d np a b =
    let P : List ℕ → Type 0 = λ x. NoEnd (place_past_sign s) x in
    subst P (sym e) (one_step (place_past_sign s) past_point 46 rest (sign_then_point s) refl (stuck_in_front past_point rest (stuck_past_point rest d)))

pub no_front : (text u rest : List ℕ) (negative : Bool) → SplitsSign text negative u → (m : DropsMantissa u rest) → length (m.whole ++ fraction_digits m.fraction) ≡ 0 → HasNoLiteralFront text
no_front text u rest negative s m none =
    let P : List ℕ → Type 0 = λ x. NoEnd at_start x in
    no_literal_in_front text (subst P (sym s.split) (behind_sign s.sign u (no_digit_ends u rest s.sign m.whole m.fraction m.split none m.stops m.no_point s.no_plus s.no_minus)))

-- a front that is the whole text, and a text that is a literal
pub whole_front : (text front rest : List ℕ) → IsLiteralFront text front rest → length rest ≡ 0 → front ≡ text
whole_front text front [] f none = sym (f.split ∙ append-nil front)
whole_front text front (c ∷ cs) f none = absurd (omega (arith, none))

pub literal_is_front : (text front rest : List ℕ) → IsLiteralFront text front rest → IsLiteral text → length rest ≡ 0
literal_is_front text front rest f is =
    let more = f.longest text [] (sym (append-nil text)) is in
    let count = ap length f.split ∙ length-append front rest in
    omega (arith, more, count)
