-- A text whose bytes lead over the places of a literal to one where it may end is a literal, with its parts.
use Rattle.std.proofs.Common.{◌≡◌, ℕ, ◌<◌, ◌≤◌, ◌⊎◌, Bool, true, false, cond, ◌&&◌, ◌||◌, ◌==◌, nat_le, List, [], ◌∷◌, ◌++◌, length, Option, Some, None, refl, ap, ◌∙◌, arith, inl, inr}
use Rattle.std.specs.Char.{is_ascii_digit}
use Rattle.std.proofs.lemmas.Bool.{eqb-true, leb-true}
use Rattle.delay_units.specs.Literal.{AreDigits, Sign, unsigned, plus, minus, sign_text, Exponent, IsLiteral, fraction_text, fraction_digits, exponent_text, IsExponent}
use Rattle.delay_units.specs.Places.{Place, at_start, past_sign, in_whole, past_point, in_fraction, past_mark, past_exponent_sign, in_exponent, is_sign, is_mark, place_behind, ends_literal, is_literal}
use Rattle.delay_units.proofs.PlaceLemmas.{literal_leads}

-- the rest from a point on: digits and an exponent that may be left out
record Fraction (rest : List ℕ) : Type 0 where
  digits : List ℕ
  exponent : Option Exponent
  splits : rest ≡ digits ++ exponent_text exponent
  are_digits : AreDigits digits
  formed : IsExponent exponent

-- the rest from the mark of an exponent on
record Marked (rest : List ℕ) : Type 0 where
  sign : Sign
  digits : List ℕ
  splits : rest ≡ sign_text sign ++ digits
  are_digits : AreDigits digits
  some_digit : 0 < length digits

-- the rest from a sign on: digits, a point with digits behind it that may be left out, an exponent that may be
record Unsigned (rest : List ℕ) : Type 0 where
  whole : List ℕ
  fraction : Option (List ℕ)
  exponent : Option Exponent
  splits : rest ≡ whole ++ (fraction_text fraction ++ exponent_text exponent)
  are_digits : AreDigits whole
  fraction_are_digits : AreDigits (fraction_digits fraction)
  formed : IsExponent exponent

-- what stands behind a place
abbrev Behind : Place → List ℕ → Type 0
Behind at_start rest = IsLiteral rest
Behind past_sign rest = (u : Unsigned rest) × (0 < length (u.whole ++ fraction_digits u.fraction))
Behind in_whole rest = Unsigned rest
Behind past_point rest = (f : Fraction rest) × (0 < length f.digits)
Behind in_fraction rest = Fraction rest
Behind past_mark rest = Marked rest
Behind past_exponent_sign rest = AreDigits rest × (0 < length rest)
Behind in_exponent rest = AreDigits rest

digit_parts : (a b : Bool) → a && b ≡ true → (a ≡ true) × (b ≡ true)
digit_parts true true h = (refl, refl)
digit_parts true false h = absurd (cc)
digit_parts false b h = absurd (cc)

digit_is : (c : ℕ) → is_ascii_digit c ≡ true → (48 ≤ c) × (c ≤ 57)
digit_is c h = let p = digit_parts (nat_le 48 c) (nat_le c 57) h in (leb-true 48 c p.0, leb-true c 57 p.1)

more_digits : (c : ℕ) (ds : List ℕ) → is_ascii_digit c ≡ true → AreDigits ds → AreDigits (c ∷ ds)
more_digits c ds h all = let d = digit_is c h in (d.0, d.1, all)

mark_is : (c : ℕ) → is_mark c ≡ true → (c ≡ 101) ⊎ (c ≡ 69)
mark_is c h = by (c == 101) refl (c == 69) refl h
  where
    by : (a : Bool) → c == 101 ≡ a → (b : Bool) → c == 69 ≡ b → a || b ≡ true → (c ≡ 101) ⊎ (c ≡ 69)
    by true e b f h = inl (eqb-true c 101 e)
    by false e true f h = inr (eqb-true c 69 f)
    by false e false f h = absurd (cc)

-- a sign byte
record SignByte (c : ℕ) : Type 0 where
  sign : Sign
  writes : c ∷ [] ≡ sign_text sign

sign_is : (c : ℕ) → is_sign c ≡ true → SignByte c
sign_is c h = by (c == 43) refl (c == 45) refl h
  where
    by : (a : Bool) → c == 43 ≡ a → (b : Bool) → c == 45 ≡ b → a || b ≡ true → SignByte c
    by true e b f h = record { sign = plus; writes = ap (λ x. x ∷ []) (eqb-true c 43 e) }
    by false e true f h = record { sign = minus; writes = ap (λ x. x ∷ []) (eqb-true c 45 f) }
    by false e false f h = absurd (cc)

-- a byte more at the front of each of them

digit_and_fraction : (c : ℕ) (rest : List ℕ) → is_ascii_digit c ≡ true → Fraction rest → (f : Fraction (c ∷ rest)) × (0 < length f.digits)
digit_and_fraction c rest h f = (
  record {
    digits = c ∷ f.digits;
    exponent = f.exponent;
    splits = ap (λ l. c ∷ l) f.splits;
    are_digits = more_digits c f.digits h f.are_digits;
    formed = f.formed;
  },
  omega arith,
)

mark_and_digits : (c : ℕ) (rest : List ℕ) → is_mark c ≡ true → Marked rest → Fraction (c ∷ rest)
mark_and_digits c rest h m = record {
  digits = [];
  exponent = Some (record { mark = c; sign = m.sign; digits = m.digits });
  splits = ap (λ l. c ∷ l) m.splits;
  are_digits = tt;
  formed = (mark_is c h, m.are_digits, m.some_digit);
}

digit_and_unsigned : (c : ℕ) (rest : List ℕ) → is_ascii_digit c ≡ true → Unsigned rest → (u : Unsigned (c ∷ rest)) × (0 < length (u.whole ++ fraction_digits u.fraction))
digit_and_unsigned c rest h u = (
  record {
    whole = c ∷ u.whole;
    fraction = u.fraction;
    exponent = u.exponent;
    splits = ap (λ l. c ∷ l) u.splits;
    are_digits = more_digits c u.whole h u.are_digits;
    fraction_are_digits = u.fraction_are_digits;
    formed = u.formed;
  },
  omega arith,
)

abbrev point_and_fraction : (c : ℕ) (rest : List ℕ) → c == 46 ≡ true → Fraction rest → Unsigned (c ∷ rest)
point_and_fraction c rest h f = record {
  whole = [];
  fraction = Some f.digits;
  exponent = f.exponent;
  splits = ap (λ b. b ∷ rest) (eqb-true c 46 h) ∙ ap (λ l. 46 ∷ l) f.splits;
  are_digits = tt;
  fraction_are_digits = f.are_digits;
  formed = f.formed;
}

mark_and_unsigned : (c : ℕ) (rest : List ℕ) → is_mark c ≡ true → Marked rest → Unsigned (c ∷ rest)
mark_and_unsigned c rest h m = record {
  whole = [];
  fraction = None;
  exponent = Some (record { mark = c; sign = m.sign; digits = m.digits });
  splits = ap (λ l. c ∷ l) m.splits;
  are_digits = tt;
  fraction_are_digits = tt;
  formed = (mark_is c h, m.are_digits, m.some_digit);
}

no_sign : (rest : List ℕ) (u : Unsigned rest) → 0 < length (u.whole ++ fraction_digits u.fraction) → IsLiteral rest
no_sign rest u some = (
  record { sign = unsigned; whole = u.whole; fraction = u.fraction; exponent = u.exponent },
  record { writes = u.splits; whole = u.are_digits; fraction = u.fraction_are_digits; some_digit = some; exponent = u.formed },
)

sign_and_unsigned : (c : ℕ) (rest : List ℕ) → is_sign c ≡ true → (u : Unsigned rest) → 0 < length (u.whole ++ fraction_digits u.fraction) → IsLiteral (c ∷ rest)
sign_and_unsigned c rest h u some =
    let s = sign_is c h in (
      record { sign = s.sign; whole = u.whole; fraction = u.fraction; exponent = u.exponent },
      record { writes = ap (λ l. c ∷ l) u.splits ∙ ap (λ l. l ++ (u.whole ++ (fraction_text u.fraction ++ exponent_text u.exponent))) s.writes; whole = u.are_digits; fraction = u.fraction_are_digits; some_digit = some; exponent = u.formed },
    )

sign_and_digits : (c : ℕ) (rest : List ℕ) → is_sign c ≡ true → AreDigits rest → 0 < length rest → Marked (c ∷ rest)
sign_and_digits c rest h all some =
    let s = sign_is c h in
    record { sign = s.sign; digits = rest; splits = ap (λ l. l ++ rest) s.writes; are_digits = all; some_digit = some }

-- the bytes lead from the place to one where a literal may end
abbrev Leads : Place → List ℕ → Type 0
Leads p rest = ends_literal (place_behind (Some p) rest) ≡ true

abbrev LeadsFrom : Option Place → List ℕ → Type 0
LeadsFrom p rest = ends_literal (place_behind p rest) ≡ true

stuck : (rest : List ℕ) → LeadsFrom None rest → ⊥
stuck [] h = cc
stuck (b ∷ rest) h = cc

-- the three tests of a byte: a digit, a point, and a sign or a mark
by_tests : (one two three : Option Place) (rest : List ℕ) (T : Type 0) (a b d : Bool)
    → (a ≡ true → LeadsFrom one rest → T) → (b ≡ true → LeadsFrom two rest → T) → (d ≡ true → LeadsFrom three rest → T)
    → LeadsFrom (cond a one (cond b two (cond d three None))) rest → T
by_tests one two three rest T true b d f g k h = f refl h
by_tests one two three rest T false true d f g k h = g refl h
by_tests one two three rest T false false true f g k h = k refl h
by_tests one two three rest T false false false f g k h = absurd (stuck rest h)

nothing_left : Fraction []
nothing_left = record { digits = []; exponent = None; splits = refl; are_digits = tt; formed = tt }

shape : (p : Place) (rest : List ℕ) → Leads p rest → Behind p rest
shape at_start [] h = absurd (cc)
shape past_sign [] h = absurd (cc)
shape in_whole [] h = record { whole = []; fraction = None; exponent = None; splits = refl; are_digits = tt; fraction_are_digits = tt; formed = tt }
shape past_point [] h = absurd (cc)
shape in_fraction [] h = nothing_left
shape past_mark [] h = absurd (cc)
shape past_exponent_sign [] h = absurd (cc)
shape in_exponent [] h = tt
shape at_start (c ∷ rest) h =
    by_tests (Some in_whole) (Some past_point) (Some past_sign) rest (IsLiteral (c ∷ rest)) (is_ascii_digit c) (c == 46) (is_sign c)
    (λ is later. let u = digit_and_unsigned c rest is (shape in_whole rest later) in no_sign (c ∷ rest) u.0 u.1)
    (λ is later. let f = shape past_point rest later in no_sign (c ∷ rest) (point_and_fraction c rest is f.0) f.1)
    (λ is later. let u = shape past_sign rest later in sign_and_unsigned c rest is u.0 u.1)
    h
shape past_sign (c ∷ rest) h =
    by_tests (Some in_whole) (Some past_point) None rest (Behind past_sign (c ∷ rest)) (is_ascii_digit c) (c == 46) false
    (λ is later. digit_and_unsigned c rest is (shape in_whole rest later))
    (λ is later. let f = shape past_point rest later in (point_and_fraction c rest is f.0, f.1))
    (λ is later. absurd (cc))
    h
shape in_whole (c ∷ rest) h =
    by_tests (Some in_whole) (Some in_fraction) (Some past_mark) rest (Unsigned (c ∷ rest)) (is_ascii_digit c) (c == 46) (is_mark c)
    (λ is later. (digit_and_unsigned c rest is (shape in_whole rest later)).0)
    (λ is later. point_and_fraction c rest is (shape in_fraction rest later))
    (λ is later. mark_and_unsigned c rest is (shape past_mark rest later))
    h
shape past_point (c ∷ rest) h =
    by_tests (Some in_fraction) None None rest (Behind past_point (c ∷ rest)) (is_ascii_digit c) false false
    (λ is later. digit_and_fraction c rest is (shape in_fraction rest later))
    (λ is later. absurd (cc))
    (λ is later. absurd (cc))
    h
shape in_fraction (c ∷ rest) h =
    by_tests (Some in_fraction) (Some past_mark) None rest (Fraction (c ∷ rest)) (is_ascii_digit c) (is_mark c) false
    (λ is later. (digit_and_fraction c rest is (shape in_fraction rest later)).0)
    (λ is later. mark_and_digits c rest is (shape past_mark rest later))
    (λ is later. absurd (cc))
    h
shape past_mark (c ∷ rest) h =
    by_tests (Some in_exponent) (Some past_exponent_sign) None rest (Marked (c ∷ rest)) (is_ascii_digit c) (is_sign c) false
    (λ is later. record { sign = unsigned; digits = c ∷ rest; splits = refl; are_digits = more_digits c rest is (shape in_exponent rest later); some_digit = omega arith })
    (λ is later. let d = shape past_exponent_sign rest later in sign_and_digits c rest is d.0 d.1)
    (λ is later. absurd (cc))
    h
shape past_exponent_sign (c ∷ rest) h =
    by_tests (Some in_exponent) None None rest (Behind past_exponent_sign (c ∷ rest)) (is_ascii_digit c) false false
    (λ is later. (more_digits c rest is (shape in_exponent rest later), omega arith))
    (λ is later. absurd (cc))
    (λ is later. absurd (cc))
    h
shape in_exponent (c ∷ rest) h =
    by_tests (Some in_exponent) None None rest (Behind in_exponent (c ∷ rest)) (is_ascii_digit c) false false
    (λ is later. more_digits c rest is (shape in_exponent rest later))
    (λ is later. absurd (cc))
    (λ is later. absurd (cc))
    h

pub literal_has_parts : (text : List ℕ) → is_literal text ≡ true → IsLiteral text
unfolding is_literal
literal_has_parts text h = shape at_start text h

-- and each literal leads to such a place
pub literal_ends : (text : List ℕ) → IsLiteral text → is_literal text ≡ true
unfolding is_literal
literal_ends text is = let t = literal_leads text is.0 is.1 in ap ends_literal t.1 ∙ t.2
