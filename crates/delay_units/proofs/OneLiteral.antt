-- A text is one literal at most.
use Rattle.std.proofs.Common.{◌≡◌, ℕ, ◌<◌, ◌≤◌, List, [], ◌∷◌, ◌++◌, length, sym, ap, ◌∙◌, refl, arith, subst, false, ⊎_elim, inl, inr, ◌⊎◌, Option, Some, None, eqb, Result}
use Rattle.std.specs.Char.{is_ascii_digit}
use Rattle.std.proofs.lemmas.List.{append-nil}
use Rattle.std.proofs.lemmas.Bool.Decides.{nat_tests}
use Rattle.delay_units.specs.Literal.{AreDigits, Sign, unsigned, plus, minus, sign_text, Exponent, Literal, fraction_text, fraction_digits, exponent_text, IsExponent, Spells, IsAnswerTo}
use Rattle.delay_units.specs.Parts.{NoDigitFirst, NotFirst}
use Rattle.delay_units.specs.declared.numbers.Decimal.{Decimal}
use Rattle.delay_units.specs.declared.numbers.NumberFault.{NumberFault}
use Rattle.delay_units.proofs.PlaceLemmas.{digit_is}

head_of : (x y : ℕ) (xs ys : List ℕ) → x ∷ xs ≡ y ∷ ys → x ≡ y
head_of x y xs ys e = cc

tail_of : (x y : ℕ) (xs ys : List ℕ) → x ∷ xs ≡ y ∷ ys → xs ≡ ys
tail_of x y xs ys e = cc

no_cons : (x : ℕ) (xs : List ℕ) → [] ≡ x ∷ xs → ⊥
no_cons x xs e = cc

digit_is_not : (c : ℕ) → 48 ≤ c → c ≤ 57 → is_ascii_digit c ≡ false → ⊥
digit_is_not c low high e = let d = digit_is c low high in cc

one_split : (xs ys r s : List ℕ) → AreDigits xs → AreDigits ys → NoDigitFirst r → NoDigitFirst s → xs ++ r ≡ ys ++ s → (xs ≡ ys) × (r ≡ s)
one_split [] [] r s hx hy nr ns e = (refl, e)
one_split [] (y ∷ ys) r s hx hy nr ns e =
    let P : List ℕ → Type 0 = λ z. NoDigitFirst z in
    absurd (digit_is_not y hy.0 hy.1 (subst P e nr))
one_split (x ∷ xs) [] r s hx hy nr ns e =
    let P : List ℕ → Type 0 = λ z. NoDigitFirst z in
    absurd (digit_is_not x hx.0 hx.1 (subst P (sym e) ns))
one_split (x ∷ xs) (y ∷ ys) r s hx hy nr ns e =
    let h = one_split xs ys r s hx.2 hy.2 nr ns (tail_of x y (xs ++ r) (ys ++ s) e) in
    let a : x ≡ y = head_of x y (xs ++ r) (ys ++ s) e in
    (ap (λ z. z ∷ xs) a ∙ ap (λ z. y ∷ z) h.0, h.1)

-- the bytes of a sign are none of a text that begins with a digit or a point
abbrev pub NoSignFirst : List ℕ → Type 0
NoSignFirst u = NotFirst 43 u × NotFirst 45 u

digit_no_sign : (c : ℕ) (cs : List ℕ) → 48 ≤ c → NoSignFirst (c ∷ cs)
digit_no_sign c cs low = (grind (arith, nat_tests), grind (arith, nat_tests))

not_sign : (c : ℕ) (cs u : List ℕ) → NoSignFirst u → u ≡ c ∷ cs → ((c ≡ 43) ⊎ (c ≡ 45)) → ⊥
not_sign c cs u n e (inl is) =
    let P : List ℕ → Type 0 = λ z. NotFirst 43 z in
    let h : eqb c 43 ≡ false = subst P e n.0 in
    let f : eqb 43 43 ≡ false = subst (λ (x : ℕ). eqb x 43 ≡ false) is h in
    cc
not_sign c cs u n e (inr is) =
    let P : List ℕ → Type 0 = λ z. NotFirst 45 z in
    let h : eqb c 45 ≡ false = subst P e n.1 in
    let f : eqb 45 45 ≡ false = subst (λ (x : ℕ). eqb x 45 ≡ false) is h in
    cc

one_sign : (a b : Sign) (u v : List ℕ) → NoSignFirst u → NoSignFirst v → sign_text a ++ u ≡ sign_text b ++ v → (a ≡ b) × (u ≡ v)
one_sign unsigned unsigned u v nu nv e = (refl, e)
one_sign plus plus u v nu nv e = (refl, tail_of 43 43 u v e)
one_sign minus minus u v nu nv e = (refl, tail_of 45 45 u v e)
one_sign unsigned plus u v nu nv e = absurd (not_sign 43 v u nu e (inl refl))
one_sign unsigned minus u v nu nv e = absurd (not_sign 45 v u nu e (inr refl))
one_sign plus unsigned u v nu nv e = absurd (not_sign 43 u v nv (sym e) (inl refl))
one_sign minus unsigned u v nu nv e = absurd (not_sign 45 u v nv (sym e) (inr refl))
one_sign plus minus u v nu nv e = let h = head_of 43 45 u v e in absurd (omega (arith, h))
one_sign minus plus u v nu nv e = let h = head_of 45 43 u v e in absurd (omega (arith, h))

digits_no_sign : (ds : List ℕ) (r : List ℕ) → AreDigits ds → 0 < length ds → NoSignFirst (ds ++ r)
digits_no_sign [] r h some = absurd (omega (arith, some))
digits_no_sign (d ∷ ds) r h some = digit_no_sign d (ds ++ r) h.0

pub mantissa_no_sign : (whole : List ℕ) (fraction : Option (List ℕ)) (r : List ℕ) → AreDigits whole → 0 < length (whole ++ fraction_digits fraction) → NoSignFirst (whole ++ (fraction_text fraction ++ r))
mantissa_no_sign [] None r h some = absurd (omega (arith, some))
mantissa_no_sign [] (Some ds) r h some = (refl, refl)
mantissa_no_sign (w ∷ ws) fraction r h some = digit_no_sign w (ws ++ (fraction_text fraction ++ r)) h.0

mark_no_digit : (c : ℕ) → ((c ≡ 101) ⊎ (c ≡ 69)) → is_ascii_digit c ≡ false
mark_no_digit c (inl e) = ap is_ascii_digit e
mark_no_digit c (inr e) = ap is_ascii_digit e

exponent_no_digit : (x : Option Exponent) → IsExponent x → NoDigitFirst (exponent_text x)
exponent_no_digit None h = tt
exponent_no_digit (Some e) h = mark_no_digit e.mark h.0

tail_no_digit : (fraction : Option (List ℕ)) (x : Option Exponent) → IsExponent x → NoDigitFirst (fraction_text fraction ++ exponent_text x)
tail_no_digit None x h = exponent_no_digit x h
tail_no_digit (Some ds) x h = refl

point_no_mark : (ds : List ℕ) (x : Option Exponent) → IsExponent x → exponent_text x ≡ 46 ∷ ds → ⊥
point_no_mark ds None h e = no_cons 46 ds e
point_no_mark ds (Some x) h e =
    let a = head_of x.mark 46 (sign_text x.sign ++ x.digits) ds e in
    ⊎_elim (λ m. omega (arith, a, m)) (λ m. omega (arith, a, m)) h.0

one_exponent : (x y : Option Exponent) → IsExponent x → IsExponent y → exponent_text x ≡ exponent_text y → x ≡ y
one_exponent None None hx hy e = refl
one_exponent None (Some y) hx hy e = absurd (no_cons y.mark (sign_text y.sign ++ y.digits) e)
one_exponent (Some x) None hx hy e = absurd (no_cons x.mark (sign_text x.sign ++ x.digits) (sym e))
one_exponent (Some x) (Some y) hx hy e =
    let a : x.mark ≡ y.mark = head_of x.mark y.mark (sign_text x.sign ++ x.digits) (sign_text y.sign ++ y.digits) e in
    let t = tail_of x.mark y.mark (sign_text x.sign ++ x.digits) (sign_text y.sign ++ y.digits) e in
    let P : List ℕ → Type 0 = λ z. NoSignFirst z in
    let b = one_sign x.sign y.sign x.digits y.digits (subst P (append-nil x.digits) (digits_no_sign x.digits [] hx.1 hx.2)) (subst P (append-nil y.digits) (digits_no_sign y.digits [] hy.1 hy.2)) t in
    ap (λ z. Some (record { mark = z; sign = x.sign; digits = x.digits })) a
    ∙ ap (λ z. Some (record { mark = y.mark; sign = z; digits = x.digits })) b.0
    ∙ ap (λ z. Some (record { mark = y.mark; sign = y.sign; digits = z })) b.1

one_fraction : (f g : Option (List ℕ)) (x y : Option Exponent) → AreDigits (fraction_digits f) → AreDigits (fraction_digits g) → IsExponent x → IsExponent y → fraction_text f ++ exponent_text x ≡ fraction_text g ++ exponent_text y → (f ≡ g) × (x ≡ y)
one_fraction None None x y hf hg hx hy e = (refl, one_exponent x y hx hy e)
one_fraction None (Some ds) x y hf hg hx hy e = absurd (point_no_mark (ds ++ exponent_text y) x hx e)
one_fraction (Some ds) None x y hf hg hx hy e = absurd (point_no_mark (ds ++ exponent_text x) y hy (sym e))
one_fraction (Some ds) (Some es) x y hf hg hx hy e =
    let s = one_split ds es (exponent_text x) (exponent_text y) hf hg (exponent_no_digit x hx) (exponent_no_digit y hy) (tail_of 46 46 (ds ++ exponent_text x) (es ++ exponent_text y) e) in
    (ap (λ z. Some z) s.0, one_exponent x y hx hy s.1)

pub one_literal : (text : List ℕ) (l m : Literal) → Spells text l → Spells text m → l ≡ m
one_literal text l m a b =
    let s = one_sign l.sign m.sign (l.whole ++ (fraction_text l.fraction ++ exponent_text l.exponent)) (m.whole ++ (fraction_text m.fraction ++ exponent_text m.exponent))
    (mantissa_no_sign l.whole l.fraction (exponent_text l.exponent) a.whole a.some_digit) (mantissa_no_sign m.whole m.fraction (exponent_text m.exponent) b.whole b.some_digit)
    (sym a.writes ∙ b.writes) in
    let w = one_split l.whole m.whole (fraction_text l.fraction ++ exponent_text l.exponent) (fraction_text m.fraction ++ exponent_text m.exponent) a.whole b.whole (tail_no_digit l.fraction l.exponent a.exponent) (tail_no_digit m.fraction m.exponent b.exponent) s.1 in
    let f = one_fraction l.fraction m.fraction l.exponent m.exponent a.fraction b.fraction a.exponent b.exponent w.1 in
    ap (λ z. record { sign = z; whole = l.whole; fraction = l.fraction; exponent = l.exponent }) s.0
    ∙ ap (λ z. record { sign = m.sign; whole = z; fraction = l.fraction; exponent = l.exponent }) w.0
    ∙ ap (λ z. record { sign = m.sign; whole = m.whole; fraction = z; exponent = l.exponent }) f.0
    ∙ ap (λ z. record { sign = m.sign; whole = m.whole; fraction = m.fraction; exponent = z }) f.1

pub answer_to : (text : List ℕ) (l m : Literal) (r : Result Decimal NumberFault) → Spells text l → Spells text m → IsAnswerTo l r → IsAnswerTo m r
answer_to text l m r a b h = let P : Literal → Type 0 = λ x. IsAnswerTo x r in subst P (one_literal text l m a b) h
