-- Where the reading of a text stops: a literal leads from place to place, to one where it may end.
use Rattle.std.proofs.Common.{◌≡◌, ℕ, suc, ◌+◌, ◌-◌, ◌<◌, ◌≤◌, List, [], ◌∷◌, ◌++◌, length, take, sym, ap, ◌∙◌, refl, arith, append_assoc, subst, Bool, true, false, ⊎_elim, inl, inr, ◌⊎◌, Option, Some, None, length-append, if◌then◌else◌}
use Rattle.std.specs.Char.{is_ascii_digit}
use Rattle.std.proofs.lemmas.List.{append-nil}
use Rattle.std.proofs.Math.Seq.{take-append_seam, take-append-add}
use Rattle.std.proofs.lemmas.Bool.{cases_lt}
use Rattle.std.proofs.lemmas.Bool.Decides.{nat_tests}
use Rattle.delay_units.specs.Literal.{AreDigits, Sign, unsigned, plus, minus, sign_text, Exponent, Literal, fraction_text, fraction_digits, exponent_text, IsExponent, Spells, IsLiteral, BeginsLiteral, IsFaultOf}
use Rattle.delay_units.specs.Parts.{IsStuck}
use Rattle.delay_units.specs.Places.{Place, at_start, past_sign, in_whole, past_point, in_fraction, past_mark, past_exponent_sign, in_exponent, place_after, may_end, place_behind}
use Rattle.delay_units.specs.declared.numbers.NumberFault.TheVariants.{NotANumber}

pub digit_is : (c : ℕ) → 48 ≤ c → c ≤ 57 → is_ascii_digit c ≡ true
digit_is c low high = grind (arith, nat_tests)

pub none_stays : (ys : List ℕ) → place_behind None ys ≡ None
none_stays [] = refl
none_stays (c ∷ cs) = refl

pub behind-append : (p : Option Place) (xs ys : List ℕ) → place_behind p (xs ++ ys) ≡ place_behind (place_behind p xs) ys
behind-append p [] ys = refl
behind-append None (c ∷ cs) ys = sym (none_stays ys)
behind-append (Some p) (c ∷ cs) ys = behind-append (place_after p c) cs ys

-- bytes lead from one place to another
abbrev pub Leads : Place → List ℕ → Place → Type 0
Leads p xs q = place_behind (Some p) xs ≡ Some q

pub leads_then : (p : Place) (xs : List ℕ) (q : Place) (ys : List ℕ) (r : Place) → Leads p xs q → Leads q ys r → Leads p (xs ++ ys) r
leads_then p xs q ys r a b = behind-append (Some p) xs ys ∙ ap (λ x. place_behind x ys) a ∙ b

pub leads_first : (p : Place) (c : ℕ) (q : Place) (cs : List ℕ) (r : Place) → place_after p c ≡ Some q → Leads q cs r → Leads p (c ∷ cs) r
leads_first p c q cs r a b = ap (λ x. place_behind x cs) a ∙ b

-- a digit leads from one place to another
abbrev pub Enters : Place → Place → Type 0
Enters p q = (c : ℕ) → is_ascii_digit c ≡ true → place_after p c ≡ Some q

chosen : (b : Bool) (x y : Option Place) → b ≡ true → (if b then x else y) ≡ x
chosen true x y e = refl
chosen false x y e = cc

pub not_chosen : (b : Bool) (x y : Option Place) → b ≡ false → (if b then x else y) ≡ y
not_chosen true x y e = cc
not_chosen false x y e = refl

at_start_enters : Enters at_start in_whole
at_start_enters c e = chosen (is_ascii_digit c) _ _ e

past_sign_enters : Enters past_sign in_whole
past_sign_enters c e = chosen (is_ascii_digit c) _ _ e

in_whole_enters : Enters in_whole in_whole
in_whole_enters c e = chosen (is_ascii_digit c) _ _ e

past_point_enters : Enters past_point in_fraction
past_point_enters c e = chosen (is_ascii_digit c) _ _ e

in_fraction_enters : Enters in_fraction in_fraction
in_fraction_enters c e = chosen (is_ascii_digit c) _ _ e

past_mark_enters : Enters past_mark in_exponent
past_mark_enters c e = chosen (is_ascii_digit c) _ _ e

past_exponent_sign_enters : Enters past_exponent_sign in_exponent
past_exponent_sign_enters c e = chosen (is_ascii_digit c) _ _ e

pub in_exponent_enters : Enters in_exponent in_exponent
in_exponent_enters c e = chosen (is_ascii_digit c) _ _ e

digits_stay : (q : Place) → Enters q q → (ds : List ℕ) → AreDigits ds → Leads q ds q
digits_stay q enters [] h = refl
digits_stay q enters (d ∷ ds) h = leads_first q d q ds q (enters d (digit_is d h.0 h.1)) (digits_stay q enters ds h.2)

pub digits_lead : (p q : Place) → Enters p q → Enters q q → (ds : List ℕ) → AreDigits ds → 0 < length ds → Leads p ds q
digits_lead p q first enters [] h some = absurd (omega (arith, some))
digits_lead p q first enters (d ∷ ds) h some = leads_first p d q ds q (first d (digit_is d h.0 h.1)) (digits_stay q enters ds h.2)

abbrev pub place_past_sign : Sign → Place
place_past_sign unsigned = at_start
place_past_sign plus = past_sign
place_past_sign minus = past_sign

pub sign_leads : (s : Sign) → Leads at_start (sign_text s) (place_past_sign s)
sign_leads unsigned = refl
sign_leads plus = refl
sign_leads minus = refl

sign_enters : (s : Sign) → Enters (place_past_sign s) in_whole
sign_enters unsigned = at_start_enters
sign_enters plus = past_sign_enters
sign_enters minus = past_sign_enters

pub sign_then_point : (s : Sign) → place_after (place_past_sign s) 46 ≡ Some past_point
sign_then_point unsigned = refl
sign_then_point plus = refl
sign_then_point minus = refl

abbrev pub place_past_mantissa : Option (List ℕ) → Place
place_past_mantissa None = in_whole
place_past_mantissa (Some ds) = in_fraction

mantissa_leads : (p : Place) → Enters p in_whole → place_after p 46 ≡ Some past_point → (whole : List ℕ) (fraction : Option (List ℕ)) → AreDigits whole → AreDigits (fraction_digits fraction) → 0 < length (whole ++ fraction_digits fraction) → Leads p (whole ++ fraction_text fraction) (place_past_mantissa fraction)
mantissa_leads p enters point [] None hw hf some = absurd (omega (arith, some))
mantissa_leads p enters point [] (Some ds) hw hf some =
    leads_first p 46 past_point ds in_fraction point (digits_lead past_point in_fraction past_point_enters in_fraction_enters ds hf some)
mantissa_leads p enters point (w ∷ ws) None hw hf some =
    leads_then p (w ∷ ws) in_whole [] in_whole (digits_lead p in_whole enters in_whole_enters (w ∷ ws) hw (omega arith)) refl
mantissa_leads p enters point (w ∷ ws) (Some ds) hw hf some =
    leads_then p (w ∷ ws) in_whole (46 ∷ ds) in_fraction (digits_lead p in_whole enters in_whole_enters (w ∷ ws) hw (omega arith))
    (leads_first in_whole 46 in_fraction ds in_fraction refl (digits_stay in_fraction in_fraction_enters ds hf))

abbrev pub place_past_exponent_sign : Sign → Place
place_past_exponent_sign unsigned = past_mark
place_past_exponent_sign plus = past_exponent_sign
place_past_exponent_sign minus = past_exponent_sign

pub exponent_sign_leads : (s : Sign) → Leads past_mark (sign_text s) (place_past_exponent_sign s)
exponent_sign_leads unsigned = refl
exponent_sign_leads plus = refl
exponent_sign_leads minus = refl

pub exponent_sign_enters : (s : Sign) → Enters (place_past_exponent_sign s) in_exponent
exponent_sign_enters unsigned = past_mark_enters
exponent_sign_enters plus = past_exponent_sign_enters
exponent_sign_enters minus = past_exponent_sign_enters

pub mark_leads : (fraction : Option (List ℕ)) (c : ℕ) → ((c ≡ 101) ⊎ (c ≡ 69)) → place_after (place_past_mantissa fraction) c ≡ Some past_mark
mark_leads None c (inl e) = ap (λ x. place_after in_whole x) e
mark_leads None c (inr e) = ap (λ x. place_after in_whole x) e
mark_leads (Some ds) c (inl e) = ap (λ x. place_after in_fraction x) e
mark_leads (Some ds) c (inr e) = ap (λ x. place_after in_fraction x) e

pub exponent_leads : (fraction : Option (List ℕ)) (e : Exponent) → ((e.mark ≡ 101) ⊎ (e.mark ≡ 69)) → AreDigits e.digits → 0 < length e.digits → Leads (place_past_mantissa fraction) (exponent_text (Some e)) in_exponent
exponent_leads fraction e is_e h some =
    leads_first (place_past_mantissa fraction) e.mark past_mark (sign_text e.sign ++ e.digits) in_exponent (mark_leads fraction e.mark is_e)
    (leads_then past_mark (sign_text e.sign) (place_past_exponent_sign e.sign) e.digits in_exponent (exponent_sign_leads e.sign)
    (digits_lead (place_past_exponent_sign e.sign) in_exponent (exponent_sign_enters e.sign) in_exponent_enters e.digits h some))

mantissa_may_end : (fraction : Option (List ℕ)) → may_end (place_past_mantissa fraction) ≡ true
mantissa_may_end None = refl
mantissa_may_end (Some ds) = refl

tail_leads : (fraction : Option (List ℕ)) (x : Option Exponent) → IsExponent x → (q : Place) × Leads (place_past_mantissa fraction) (exponent_text x) q × (may_end q ≡ true)
tail_leads fraction None h = (place_past_mantissa fraction, refl, mantissa_may_end fraction)
tail_leads fraction (Some e) h = (in_exponent, exponent_leads fraction e h.0 h.1 h.2, refl)

pub front_leads : (s : Sign) (whole : List ℕ) (fraction : Option (List ℕ)) → AreDigits whole → AreDigits (fraction_digits fraction) → 0 < length (whole ++ fraction_digits fraction) → Leads at_start (sign_text s ++ (whole ++ fraction_text fraction)) (place_past_mantissa fraction)
front_leads s whole fraction hw hf some =
    leads_then at_start (sign_text s) (place_past_sign s) (whole ++ fraction_text fraction) (place_past_mantissa fraction) (sign_leads s)
    (mantissa_leads (place_past_sign s) (sign_enters s) (sign_then_point s) whole fraction hw hf some)

-- the front of a literal and the rest
pub regrouped : (a b c d : List ℕ) → a ++ (b ++ (c ++ d)) ≡ (a ++ (b ++ c)) ++ d
regrouped a b c d = sym (append_assoc a (b ++ c) d ∙ ap (λ x. a ++ x) (append_assoc b c d))

pub literal_leads : (text : List ℕ) (l : Literal) → Spells text l → (q : Place) × Leads at_start text q × (may_end q ≡ true)
literal_leads text l s =
    let t = tail_leads l.fraction l.exponent s.exponent in
    let front = sign_text l.sign ++ (l.whole ++ fraction_text l.fraction) in
    let e : text ≡ front ++ exponent_text l.exponent = s.writes ∙ regrouped (sign_text l.sign) l.whole (fraction_text l.fraction) (exponent_text l.exponent) in
    (t.0, ap (λ x. place_behind (Some at_start) x) e ∙ leads_then at_start front (place_past_mantissa l.fraction) (exponent_text l.exponent) t.0 (front_leads l.sign l.whole l.fraction s.whole s.fraction s.some_digit) t.1, t.2)

-- no literal goes on from a place where the rest cannot follow
stuck_is_no_literal : (text front rest : List ℕ) (q : Place) → text ≡ front ++ rest → Leads at_start front q → IsStuck q rest → IsLiteral text → ⊥
stuck_is_no_literal text front [] q e leads stuck is =
    let t = literal_leads text is.0 is.1 in
    let same : Some q ≡ Some t.0 = sym (ap (λ x. place_behind (Some at_start) x) (e ∙ append-nil front) ∙ leads) ∙ t.1 in
    let eq : q ≡ t.0 = cc in
    let b : false ≡ true = sym stuck ∙ ap may_end eq ∙ t.2 in
    cc
stuck_is_no_literal text front (c ∷ cs) q e leads stuck is =
    let t = literal_leads text is.0 is.1 in
    let dead : place_behind (Some at_start) text ≡ None =
    ap (λ x. place_behind (Some at_start) x) e ∙ behind-append (Some at_start) front (c ∷ cs) ∙ ap (λ x. place_behind x (c ∷ cs)) leads ∙ ap (λ x. place_behind x cs) stuck ∙ none_stays cs in
    let b : None ≡ Some t.0 = sym dead ∙ t.1 in
    cc

-- a longer front of a stuck text leads nowhere
longer_is_no_literal : (text front : List ℕ) (c : ℕ) (cs : List ℕ) (q : Place) (n : ℕ) → text ≡ front ++ (c ∷ cs) → Leads at_start front q → place_after q c ≡ None → BeginsLiteral (take (length front + suc n) text) → ⊥
longer_is_no_literal text front c cs q n e leads stuck b =
    let t : take (length front + suc n) text ≡ front ++ (c ∷ take n cs) = ap (λ x. take (length front + suc n) x) e ∙ take-append-add front (c ∷ cs) (suc n) in
    let whole : take (length front + suc n) text ++ b.0 ≡ front ++ (c ∷ (take n cs ++ b.0)) = ap (λ x. x ++ b.0) t ∙ append_assoc front (c ∷ take n cs) b.0 in
    stuck_is_no_literal (take (length front + suc n) text ++ b.0) front (c ∷ (take n cs ++ b.0)) q whole leads stuck b.1

longest_of : (text front rest : List ℕ) (q : Place) (k : ℕ) → text ≡ front ++ rest → Leads at_start front q → IsStuck q rest → k ≤ length text → BeginsLiteral (take k text) → length front < k → ⊥
longest_of text front [] q k e leads stuck within b more = let f = ap length (e ∙ append-nil front) in omega (arith, f, within, more)
longest_of text front (c ∷ cs) q k e leads stuck within b more =
    let d : length front + suc (k - length front - 1) ≡ k = omega (arith, more) in
    let P : ℕ → Type 0 = λ x. BeginsLiteral (take x text) in
    longer_is_no_literal text front c cs q (k - length front - 1) e leads stuck (subst P (sym d) b)

pub le_of_not : (k p : ℕ) → (p < k → ⊥) → k ≤ p
le_of_not k p h = ⊎_elim (λ l. absurd (h l)) (λ l. l) (cases_lt p k)

pub stops_at : (text front rest : List ℕ) (q : Place) (p : ℕ) → text ≡ front ++ rest → Leads at_start front q → IsStuck q rest → BeginsLiteral front → p ≡ length text - length rest → IsFaultOf text (NotANumber p)
stops_at text front rest q p e leads stuck begins ep =
    let len = ap length e ∙ length-append front rest in
    let pe : length front ≡ p = omega (arith, len, ep) in
    let seam : take p text ≡ front = ap (λ n. take n text) (sym pe) ∙ ap (λ x. take (length front) x) e ∙ take-append_seam front rest in (
      stuck_is_no_literal text front rest q e leads stuck,
      record {
        within = omega (arith, len, ep);
        begins = let P : List ℕ → Type 0 = λ x. BeginsLiteral x in subst P (sym seam) begins;
        longest = λ k within b. le_of_not k p (λ more. longest_of text front rest q k e leads stuck within b (omega (arith, pe, more)));
      },
    )
