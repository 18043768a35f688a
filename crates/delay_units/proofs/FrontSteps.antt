-- The steps to the literal in front of a text: its mantissa, its exponent, and what they are together.
use Rattle.std.proofs.Common.{◌≡◌, ◌≢◌, ◌↔◌, IsTrue, ℕ, ◌+◌, ◌-◌, ◌<◌, List, [], ◌∷◌, ◌++◌, length, take, drop, sym, ap, ◌∙◌, refl, arith, append_assoc, length-append, ◌==◌, eqb-true, subst, Bool, true, false, true≢false, Option, Some, None, IfSome, Result, Ok, Err, ℤ, pos, negsuc, ◌<ℤ◌, ◌≤ℤ◌}
use Rattle.std.proofs.lemmas.Int.{ints}
use Rattle.std.proofs.lemmas.List.{append-nil, drop_at, take-append-drop}
use Rattle.delay_units.specs.Literal.{Literal, sign_text, fraction_text, fraction_digits, exponent_text, Spells, IsLiteral, IsNumber, IsFaultOf, IsAnswerTo, HasFewDigits, HasSmallExponent}
use Rattle.delay_units.specs.LiteralFronts.{IsLiteralFront, HasNoLiteralFront}
use Rattle.delay_units.specs.Parts.{NoDigitFirst, NotFirst, NoMarkFirst, BeginsWithMark, SplitsSign, SplitsSize, SplitsMantissa, DropsDigits, HasMantissa, HasNoMantissa, StopsExponent, no_more, unmarked, no_digit, SplitsExponent, DecidesDecimal, DecidesNumber}
use Rattle.delay_units.specs.Places.{is_literal}
use Rattle.delay_units.specs.Reading.{ReadsAs}
use Rattle.delay_units.specs.ShortLiterals.{IsShort, HasShortFront, EndsPlainly}
use Rattle.delay_units.specs.SignedAmounts.{IsSignedAmountOf, unread, KeepsBound}
use Rattle.delay_units.specs.declared.literal.Power.{Power}
use Rattle.delay_units.specs.declared.numbers.Decimal.{Decimal}
use Rattle.delay_units.specs.declared.numbers.NumberFault.{NumberFault}
use Rattle.delay_units.specs.declared.numbers.NumberFault.TheVariants.{NotANumber, TooManyDigits, ExponentTooLarge}
use Rattle.delay_units.specs.declared.numbers.Unit.{Unit}
use Rattle.delay_units.specs.declared.short_literals.Short.{Short}
use Rattle.delay_units.specs.declared.signed_amounts.SignedAmount.TheVariants.{Unread, Below, Past}
use Rattle.delay_units.specs.declared.signed_amounts.SignedAmount.{SignedAmount}
use Rattle.delay_units.specs.declared.tally.Tally.{Tally}
use Rattle.delay_units.proofs.AnswerLemmas.{answer_from, number_from, fault_from}
use Rattle.delay_units.proofs.FrontLemmas.{front_of_parts, no_front, plain_front, whole_front, literal_is_front}
use Rattle.delay_units.proofs.LiteralLemmas.{pointless, pointed}
use Rattle.delay_units.proofs.LiteralReading.{tells_shape}
use Rattle.delay_units.proofs.LiteralShape.{literal_has_parts}
use Rattle.delay_units.proofs.OneLiteral.{one_literal}

-- ---- the mantissa

counted : (text rest : List ℕ) → (h : DropsDigits text rest) → length text ≡ length h.digits + length rest
counted text rest h = ap length h.split ∙ length-append h.digits rest

pub some_pointless : (text rest : List ℕ) → DropsDigits text rest → NotFirst 46 rest → length rest ≢ length text → HasMantissa text rest
some_pointless text rest h np some = record {
  parts = pointless text rest h np;
  some_digit = let a = counted text rest h in let b = length-append h.digits [] in omega (arith, a, b, some);
}

pub none_pointless : (text rest : List ℕ) → DropsDigits text rest → NotFirst 46 rest → length rest ≡ length text → HasNoMantissa text
none_pointless text rest h np none = record {
  rest = rest;
  parts = pointless text rest h np;
  no_digit = let a = counted text rest h in let b = length-append h.digits [] in omega (arith, a, b, none);
}

pub some_pointed : (text rest fraction left : List ℕ) → DropsDigits text rest → rest ≡ 46 ∷ fraction → DropsDigits fraction left → length left + 1 ≢ length text → HasMantissa text left
some_pointed text rest fraction left h e g some = record {
  parts = pointed text rest fraction left h e g;
  some_digit = let a = counted text rest h in let b = ap length e in let c = counted fraction left g in let d = length-append h.digits g.digits in omega (arith, a, b, c, d, some);
}

pub none_pointed : (text rest fraction left : List ℕ) → DropsDigits text rest → rest ≡ 46 ∷ fraction → DropsDigits fraction left → length left + 1 ≡ length text → HasNoMantissa text
none_pointed text rest fraction left h e g none = record {
  rest = left;
  parts = pointed text rest fraction left h e g;
  no_digit = let a = counted text rest h in let b = ap length e in let c = counted fraction left g in let d = length-append h.digits g.digits in omega (arith, a, b, c, d, none);
}

-- ---- the exponent

abbrev no_power : Power
no_power = record { negative = false; size = 0 }

no_exponent : (text : List ℕ) → StopsExponent None text → SplitsExponent text no_power text
no_exponent text stops = record {
  exponent = None;
  split = refl;
  formed = tt;
  negative = refl;
  size = record { small = λ _. refl; large = λ l. absurd (omega (arith, l)) };
  stops = stops;
}

pub unmarked_exponent : (text : List ℕ) → NoMarkFirst text → SplitsExponent text (record { negative = false; size = 0 }) text
unmarked_exponent text none = no_exponent text (unmarked none)

no_bytes : (digits rest : List ℕ) → length rest ≡ length (digits ++ rest) → digits ≡ []
no_bytes [] rest e = refl
no_bytes (d ∷ ds) rest e = let f = length-append (d ∷ ds) rest in absurd (omega (arith, e, f))

pub no_digit_exponent : (text signed digits rest : List ℕ) (negative : Bool) (size : ℕ) → BeginsWithMark text signed → SplitsSign signed negative digits → SplitsSize digits size rest → length rest ≡ length digits
    → SplitsExponent text (record { negative = false; size = 0 }) text
no_digit_exponent text signed digits rest negative size m s z none =
    let nothing : z.digits ≡ [] = no_bytes z.digits rest (none ∙ ap length z.split) in
    let same : digits ≡ rest = z.split ∙ ap (λ x. x ++ rest) nothing in
    let P : List ℕ → Type 0 = λ x. NoDigitFirst x in
    no_exponent text (no_digit m.mark s.sign digits (m.split ∙ ap (λ x. m.mark ∷ x) s.split) m.is_e (subst P (sym same) z.stops) (λ u. (s.no_plus u, s.no_minus u)))

pub some_exponent : (text signed digits rest : List ℕ) (negative : Bool) (size : ℕ) → BeginsWithMark text signed → SplitsSign signed negative digits → SplitsSize digits size rest → length rest ≢ length digits
    → SplitsExponent text (record { negative = negative; size = size }) rest
some_exponent text signed digits rest negative size m s z some = record {
  exponent = Some (record { mark = m.mark; sign = s.sign; digits = z.digits });
  split = m.split ∙ ap (λ x. m.mark ∷ x) (s.split ∙ ap (λ x. sign_text s.sign ++ x) z.split ∙ sym (append_assoc (sign_text s.sign) z.digits rest));
  formed = (m.is_e, z.are_digits, let a = ap length z.split in let b = length-append z.digits rest in omega (arith, a, b, some));
  negative = s.sign_is;
  size = z.capped;
  stops = no_more _ z.stops;
}

-- ---- the literal

pub some_literal : (text u r rest : List ℕ) (negative : Bool) (power : Power) → SplitsSign text negative u → HasMantissa u r → SplitsExponent r power rest → (front : List ℕ) × IsLiteralFront text front rest
some_literal text u r rest negative power s m x = (_, front_of_parts text u r rest negative power s m.parts m.some_digit x)

pub no_literal_there : (text u : List ℕ) (negative : Bool) → SplitsSign text negative u → HasNoMantissa u → HasNoLiteralFront text
no_literal_there text u negative s m = no_front text u m.rest negative s m.parts m.no_digit

-- whether a text is a literal, by its front that is one
pub is_by_front : (text rest : List ℕ) (empty : Bool) → (front : List ℕ) × IsLiteralFront text front rest → empty ≡ (length rest == 0) → IsTrue empty ↔ IsLiteral text
is_by_front text [] empty (front, f) e = (λ is. let P : List ℕ → Type 0 = λ x. IsLiteral x in subst P (whole_front text front [] f refl) f.literal, λ is. e)
is_by_front text (c ∷ cs) empty (front, f) e =
    (λ is. let none = eqb-true (length (c ∷ cs)) 0 (sym e ∙ is) in absurd (omega (arith, none)), λ is. let none = literal_is_front text front (c ∷ cs) f is in absurd (omega (arith, none)))

pub is_by_none : (text : List ℕ) → HasNoLiteralFront text → IsTrue false ↔ IsLiteral text
is_by_none text none = (λ is. absurd (true≢false (sym is)), λ is. absurd (none text [] (sym (append-nil text)) is))

pub tells_literal : (text : List ℕ) (b : Bool) → IsTrue b ↔ IsLiteral text → b ≡ is_literal text
tells_literal text b is = by b (is_literal text) is refl
  where
    by : (b t : Bool) → IsTrue b ↔ IsLiteral text → is_literal text ≡ t → b ≡ is_literal text
    by true t is e = sym ((tells_shape text (is_literal text) refl).1 (is.0 refl))
    by false true is e = is.1 (literal_has_parts text e) ∙ sym e
    by false false is e = sym e

-- ---- the number

pub decides : (front : List ℕ) (l : Literal) (r : Result Decimal NumberFault) → Spells front l → IsAnswerTo l r → DecidesNumber front r
decides front l (Ok d) s a = number_from front l (Ok d) s a
decides front l (Err f) s a = fault_from front l (Err f) s a

pub leading_number : (text u r rest : List ℕ) (negative : Bool) (t : Tally) (places : ℕ) (power : Power) (result : Result Decimal NumberFault) → SplitsSign text negative u → SplitsMantissa u t places r → 0 < t.digits
    → SplitsExponent r power rest → DecidesDecimal negative t places power result → (front : List ℕ) × IsLiteralFront text front rest × DecidesNumber front result
leading_number text u r rest negative t places power result s m some x is =
    let some_digit : 0 < length (m.parts.whole ++ fraction_digits m.parts.fraction) = omega (arith, some, m.tally.digits) in
    let literal : Literal = record { sign = s.sign; whole = m.parts.whole; fraction = m.parts.fraction; exponent = x.exponent } in
    let front = sign_text s.sign ++ (m.parts.whole ++ (fraction_text m.parts.fraction ++ exponent_text x.exponent)) in (
      front,
      front_of_parts text u r rest negative power s m.parts some_digit x,
      decides front literal result
          (record { writes = refl; whole = m.parts.whole_are_digits; fraction = m.parts.fraction_are_digits; some_digit = some_digit; exponent = x.formed })
          (answer_from literal negative t places power result s.sign_is m.tally m.counted x.negative x.size is),
    )

pub no_number : (text u r : List ℕ) (negative : Bool) (t : Tally) (places : ℕ) → SplitsSign text negative u → SplitsMantissa u t places r → t.digits ≡ 0 → HasNoLiteralFront text
no_number text u r negative t places s m none = no_front text u r negative s m.parts (sym m.tally.digits ∙ none)

-- ---- short literals

-- what is in front of a window at the front of the text is in front of the text
pub short_in_front : (text window left rest : List ℕ) (n k : ℕ) (short : Short) → window ≡ take n text → HasShortFront window short left → k ≡ length window - length left → rest ≡ drop k text → HasShortFront text short rest
short_in_front text window left rest n k short e h ek er = record { front = h.front; split = whole; is_short = h.is_short }
  where
    parted : text ≡ h.front ++ (left ++ drop n text)
    parted = sym (take-append-drop n text) ∙ ap (λ x. x ++ drop n text) (sym e ∙ h.split) ∙ append_assoc h.front left (drop n text)

    count : length h.front ≡ k
    count = let a = ap length h.split in let b = length-append h.front left in omega (arith, a, b, ek)

    whole : text ≡ h.front ++ rest
    whole = parted ∙ ap (λ x. h.front ++ x) (sym (drop_at h.front (left ++ drop n text) k count) ∙ ap (drop k) (sym parted) ∙ sym er)

-- the reading of short digits that are the literal in front, or the whole text
pub reading_in_front : (unit : Unit) (text rest : List ℕ) (short : Short) (r : Option ℕ) → (h : HasShortFront text short rest) → EndsPlainly rest → IfSome r (λ grains. ReadsAs unit h.front (pos grains))
    → IfSome r (λ grains. (front : List ℕ) × IsLiteralFront text front rest × ReadsAs unit front (pos grains))
reading_in_front unit text rest short None h ends reads = reads
reading_in_front unit text rest short (Some grains) h ends reads = (h.front, plain_front text h.front rest short h.split h.is_short ends, reads)

pub short_whole : (text rest : List ℕ) (short : Short) → HasShortFront text short rest → length rest ≡ 0 → IsShort text short
short_whole text [] short h none = let P : List ℕ → Type 0 = λ x. IsShort x short in subst P (sym (h.split ∙ append-nil h.front)) h.is_short
short_whole text (c ∷ cs) short h none = absurd (omega (arith, none))

-- ---- what is not read

-- a text with a fault is no number
not_read : (text : List ℕ) (fault : NumberFault) (number : Decimal) → IsFaultOf text fault → IsNumber text number → ⊥
not_read text (NotANumber p) number is reads = is.0 (reads.literal, reads.spells)
not_read text TooManyDigits number (l, s, many) reads =
    let few : HasFewDigits l = subst (λ (x : Literal). HasFewDigits x) (one_literal text reads.literal l reads.spells s) reads.few_digits in
    omega (arith, many, few)
not_read text ExponentTooLarge number (l, s, few, large) reads =
    let small : HasSmallExponent l = subst (λ (x : Literal). HasSmallExponent x) (one_literal text reads.literal l reads.spells s) reads.small_exponent in
    omega (arith, large, small)

pub unread_for : (unit : Unit) (most : ℕ) (text : List ℕ) (read : Result Decimal NumberFault) (fault : NumberFault) → read ≡ Err fault → DecidesNumber text read → IsSignedAmountOf unit most text Unread
unread_for unit most text read fault e is = unread (λ number reads. not_read text fault number (subst (λ (x : Result Decimal NumberFault). DecidesNumber text x) e is) reads)

pub number_for : (text : List ℕ) (read : Result Decimal NumberFault) (number : Decimal) → read ≡ Ok number → DecidesNumber text read → IsNumber text number
number_for text read number e is = subst (λ (x : Result Decimal NumberFault). DecidesNumber text x) e is

-- what is past the bound is not within it
pub past_keeps_bound : (most : ℕ) (digits : ℤ) (amount : SignedAmount) → (digits <ℤ pos 0 → amount ≡ Below) → (pos 0 ≤ℤ digits → amount ≡ Past) → KeepsBound most amount
past_keeps_bound most (pos n) amount low high = let P : SignedAmount → Type 0 = λ x. KeepsBound most x in subst P (sym (high (omega (arith, ints)))) tt
past_keeps_bound most (negsuc n) amount low high = let P : SignedAmount → Type 0 = λ x. KeepsBound most x in subst P (sym (low (omega (arith, ints)))) tt
