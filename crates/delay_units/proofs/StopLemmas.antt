-- The steps of reading that stop, each at the longest front.
use Rattle.std.proofs.Common.{◌≡◌, ℕ, ◌-◌, ◌<◌, List, [], ◌∷◌, ◌++◌, length, sym, ap, ◌∙◌, refl, arith, append_assoc, subst, Bool, true, false, ◌⊎◌, Option, Some, None, eqb, ◌||◌}
use Rattle.std.specs.Char.{is_ascii_digit}
use Rattle.std.proofs.lemmas.List.{append-nil}
use Rattle.delay_units.specs.Literal.{AreDigits, Sign, unsigned, plus, minus, sign_text, Exponent, fraction_text, fraction_digits, exponent_text, IsExponent, IsLiteral, BeginsLiteral, IsFaultOf}
use Rattle.delay_units.specs.Parts.{IsStuck, NoDigitFirst, NotFirst, SplitsSign, SplitsMantissa, StopsIn, no_mark, no_end}
use Rattle.delay_units.specs.Places.{at_start, past_point, past_mark, in_exponent, is_sign, is_mark}
use Rattle.delay_units.specs.declared.numbers.NumberFault.TheVariants.{NotANumber}
use Rattle.delay_units.specs.declared.tally.Tally.{Tally}
use Rattle.delay_units.proofs.PlaceLemmas.{Leads, leads_then, leads_first, not_chosen, place_past_sign, place_past_mantissa, place_past_exponent_sign, sign_leads, sign_then_point, front_leads, exponent_sign_leads, exponent_sign_enters, in_exponent_enters, digits_lead, mark_leads, stops_at}

-- a place where none of the tests holds
neither : (p q : Bool) → p ≡ false → q ≡ false → p || q ≡ false
neither true q e f = cc
neither false q e f = f

pub stuck_past_sign : (s : Sign) (rest : List ℕ) → NoDigitFirst rest → NotFirst 46 rest → (s ≡ unsigned → NotFirst 43 rest) → (s ≡ unsigned → NotFirst 45 rest) → IsStuck (place_past_sign s) rest
stuck_past_sign unsigned [] d p a b = refl
stuck_past_sign plus [] d p a b = refl
stuck_past_sign minus [] d p a b = refl
stuck_past_sign unsigned (c ∷ cs) d p a b =
    not_chosen (is_ascii_digit c) _ _ d ∙ not_chosen (eqb c 46) _ _ p ∙ not_chosen (is_sign c) _ _ (neither (eqb c 43) (eqb c 45) (a refl) (b refl))
stuck_past_sign plus (c ∷ cs) d p a b = not_chosen (is_ascii_digit c) _ _ d ∙ not_chosen (eqb c 46) _ _ p
stuck_past_sign minus (c ∷ cs) d p a b = not_chosen (is_ascii_digit c) _ _ d ∙ not_chosen (eqb c 46) _ _ p

pub stuck_past_point : (rest : List ℕ) → NoDigitFirst rest → IsStuck past_point rest
stuck_past_point [] d = refl
stuck_past_point (c ∷ cs) d = not_chosen (is_ascii_digit c) _ _ d

pub stuck_past_mantissa : (fraction : Option (List ℕ)) (c : ℕ) (cs : List ℕ) → NoDigitFirst (c ∷ cs) → (fraction ≡ None → NotFirst 46 (c ∷ cs)) → is_mark c ≡ false → IsStuck (place_past_mantissa fraction) (c ∷ cs)
stuck_past_mantissa None c cs d p m = not_chosen (is_ascii_digit c) _ _ d ∙ not_chosen (eqb c 46) _ _ (p refl) ∙ not_chosen (is_mark c) _ _ m
stuck_past_mantissa (Some ds) c cs d p m = not_chosen (is_ascii_digit c) _ _ d ∙ not_chosen (is_mark c) _ _ m

pub stuck_past_exponent_sign : (s : Sign) (rest : List ℕ) → NoDigitFirst rest → (s ≡ unsigned → NotFirst 43 rest × NotFirst 45 rest) → IsStuck (place_past_exponent_sign s) rest
stuck_past_exponent_sign unsigned [] d a = refl
stuck_past_exponent_sign plus [] d a = refl
stuck_past_exponent_sign minus [] d a = refl
stuck_past_exponent_sign unsigned (c ∷ cs) d a =
    let b = a refl in
    not_chosen (is_ascii_digit c) _ _ d ∙ not_chosen (is_sign c) _ _ (neither (eqb c 43) (eqb c 45) b.0 b.1)
stuck_past_exponent_sign plus (c ∷ cs) d a = not_chosen (is_ascii_digit c) _ _ d
stuck_past_exponent_sign minus (c ∷ cs) d a = not_chosen (is_ascii_digit c) _ _ d

pub stuck_in_exponent : (rest : List ℕ) → NoDigitFirst rest → 0 < length rest → IsStuck in_exponent rest
stuck_in_exponent [] d some = absurd (omega (arith, some))
stuck_in_exponent (c ∷ cs) d some = not_chosen (is_ascii_digit c) _ _ d

-- ---- no digit at all

-- a digit completes a sign, and a sign and a point
sign_begins : (s : Sign) → BeginsLiteral (sign_text s)
sign_begins s = (
  48 ∷ [],
  (
    record { sign = s; whole = 48 ∷ []; fraction = None; exponent = None },
    record { writes = refl; whole = (omega arith, omega arith, tt); fraction = tt; some_digit = omega arith; exponent = tt },
  ),
)

point_begins : (s : Sign) → BeginsLiteral (sign_text s ++ (46 ∷ []))
point_begins s = (
  48 ∷ [],
  (
    record { sign = s; whole = []; fraction = Some (48 ∷ []); exponent = None },
    record { writes = append_assoc (sign_text s) (46 ∷ []) (48 ∷ []); whole = tt; fraction = (omega arith, omega arith, tt); some_digit = omega arith; exponent = tt },
  ),
)

stops_without : (text u rest : List ℕ) (s : Sign) (whole : List ℕ) (fraction : Option (List ℕ)) (p : ℕ) → text ≡ sign_text s ++ u → u ≡ whole ++ (fraction_text fraction ++ rest) → length (whole ++ fraction_digits fraction) ≡ 0 → NoDigitFirst rest → (fraction ≡ None → NotFirst 46 rest) → (s ≡ unsigned → NotFirst 43 u) → (s ≡ unsigned → NotFirst 45 u) → p ≡ length text - length rest → IsFaultOf text (NotANumber p)
stops_without text u rest s (w ∷ ws) fraction p et eu none d np a b ep = absurd (omega (arith, none))
stops_without text u rest s [] None p et eu none d np a b ep =
    let P : ℕ → List ℕ → Type 0 = λ n x. NotFirst n x in
    stops_at text (sign_text s) rest (place_past_sign s) p (et ∙ ap (λ x. sign_text s ++ x) eu) (sign_leads s)
    (stuck_past_sign s rest d (np refl) (λ e. subst (P 43) eu (a e)) (λ e. subst (P 45) eu (b e))) (sign_begins s) ep
stops_without text u rest s [] (Some (f ∷ fs)) p et eu none d np a b ep = absurd (omega (arith, none))
stops_without text u rest s [] (Some []) p et eu none d np a b ep =
    stops_at text (sign_text s ++ (46 ∷ [])) rest past_point p (et ∙ ap (λ x. sign_text s ++ x) eu ∙ sym (append_assoc (sign_text s) (46 ∷ []) rest))
    (leads_then at_start (sign_text s) (place_past_sign s) (46 ∷ []) past_point (sign_leads s) (sign_then_point s))
    (stuck_past_point rest d) (point_begins s) ep

pub stops_without_digits : (text u rest : List ℕ) (negative : Bool) (t : Tally) (places p : ℕ) → SplitsSign text negative u → SplitsMantissa u t places rest → t.digits ≡ 0 → p ≡ length text - length rest → IsFaultOf text (NotANumber p)
stops_without_digits text u rest negative t places p s m none ep =
    stops_without text u rest s.sign m.parts.whole m.parts.fraction p s.split m.parts.split (sym m.tally.digits ∙ none) m.parts.stops m.parts.no_point s.no_plus s.no_minus ep

-- ---- behind the digits

-- the front that ends with the digits, and what follows it
pub front_and_rest : (text u rest : List ℕ) (s : Sign) (whole : List ℕ) (fraction : Option (List ℕ)) → text ≡ sign_text s ++ u → u ≡ whole ++ (fraction_text fraction ++ rest) → text ≡ (sign_text s ++ (whole ++ fraction_text fraction)) ++ rest
front_and_rest text u rest s whole fraction et eu =
    et ∙ ap (λ x. sign_text s ++ x) (eu ∙ sym (append_assoc whole (fraction_text fraction) rest)) ∙ sym (append_assoc (sign_text s) (whole ++ fraction_text fraction) rest)

-- a literal with these parts
literal_of : (s : Sign) (whole : List ℕ) (fraction : Option (List ℕ)) (x : Option Exponent) → AreDigits whole → AreDigits (fraction_digits fraction) → 0 < length (whole ++ fraction_digits fraction) → IsExponent x → (text : List ℕ) → text ≡ (sign_text s ++ (whole ++ fraction_text fraction)) ++ exponent_text x → IsLiteral text
literal_of s whole fraction x hw hf some hx text e = (
  record { sign = s; whole = whole; fraction = fraction; exponent = x },
  record {
    writes = e ∙ append_assoc (sign_text s) (whole ++ fraction_text fraction) (exponent_text x) ∙ ap (λ y. sign_text s ++ y) (append_assoc whole (fraction_text fraction) (exponent_text x));
    whole = hw;
    fraction = hf;
    some_digit = some;
    exponent = hx;
  },
)

-- the front of an exponent that stops: a mark, a sign and digits
exponent_front_leads : (fraction : Option (List ℕ)) (mark : ℕ) (s : Sign) → ((mark ≡ 101) ⊎ (mark ≡ 69)) → Leads (place_past_mantissa fraction) (mark ∷ (sign_text s ++ [])) (place_past_exponent_sign s)
exponent_front_leads fraction mark s is_e =
    leads_first (place_past_mantissa fraction) mark past_mark (sign_text s ++ []) (place_past_exponent_sign s) (mark_leads fraction mark is_e)
    (leads_then past_mark (sign_text s) (place_past_exponent_sign s) [] (place_past_exponent_sign s) (exponent_sign_leads s) refl)

exponent_digits_lead : (fraction : Option (List ℕ)) (mark : ℕ) (s : Sign) (ds : List ℕ) → ((mark ≡ 101) ⊎ (mark ≡ 69)) → AreDigits ds → 0 < length ds → Leads (place_past_mantissa fraction) (mark ∷ (sign_text s ++ ds)) in_exponent
exponent_digits_lead fraction mark s ds is_e h some =
    leads_first (place_past_mantissa fraction) mark past_mark (sign_text s ++ ds) in_exponent (mark_leads fraction mark is_e)
    (leads_then past_mark (sign_text s) (place_past_exponent_sign s) ds in_exponent (exponent_sign_leads s) (digits_lead (place_past_exponent_sign s) in_exponent (exponent_sign_enters s) in_exponent_enters ds h some))

-- the front with an exponent that stops
longer_front : (front tail rest : List ℕ) (mark : ℕ) (s : Sign) (ds : List ℕ) (text : List ℕ) → text ≡ front ++ tail → tail ≡ mark ∷ (sign_text s ++ (ds ++ rest)) → text ≡ (front ++ (mark ∷ (sign_text s ++ ds))) ++ rest
longer_front front tail rest mark s ds text e f =
    e ∙ ap (λ x. front ++ x) (f ∙ ap (λ x. mark ∷ x) (sym (append_assoc (sign_text s) ds rest))) ∙ sym (append_assoc front (mark ∷ (sign_text s ++ ds)) rest)

exponent_stops_at : (text tail : List ℕ) (s : Sign) (whole : List ℕ) (fraction : Option (List ℕ)) (mark : ℕ) (es : Sign) (ds rest : List ℕ) (p : ℕ) → AreDigits whole → AreDigits (fraction_digits fraction) → 0 < length (whole ++ fraction_digits fraction) → text ≡ (sign_text s ++ (whole ++ fraction_text fraction)) ++ tail → tail ≡ mark ∷ (sign_text es ++ (ds ++ rest)) → ((mark ≡ 101) ⊎ (mark ≡ 69)) → AreDigits ds → NoDigitFirst rest → (es ≡ unsigned → NotFirst 43 (ds ++ rest) × NotFirst 45 (ds ++ rest)) → (0 < length ds → 0 < length rest) → p ≡ length text - length rest → IsFaultOf text (NotANumber p)
exponent_stops_at text tail s whole fraction mark es [] rest p hw hf some e f is_e hd d signs more ep =
    let front = sign_text s ++ (whole ++ fraction_text fraction) in
    stops_at text (front ++ (mark ∷ (sign_text es ++ []))) rest (place_past_exponent_sign es) p (longer_front front tail rest mark es [] text e f)
    (leads_then at_start front (place_past_mantissa fraction) (mark ∷ (sign_text es ++ [])) (place_past_exponent_sign es) (front_leads s whole fraction hw hf some) (exponent_front_leads fraction mark es is_e))
    (stuck_past_exponent_sign es rest d signs) (
      48 ∷ [],
      literal_of s whole fraction (Some (record { mark = mark; sign = es; digits = 48 ∷ [] })) hw hf some (is_e, (omega arith, omega arith, tt), omega arith) ((front ++ (mark ∷ (sign_text es ++ []))) ++ (48 ∷ []))
          (append_assoc front (mark ∷ (sign_text es ++ [])) (48 ∷ []) ∙ ap (λ x. front ++ (mark ∷ x)) (append_assoc (sign_text es) [] (48 ∷ []))),
    ) ep
exponent_stops_at text tail s whole fraction mark es (x ∷ xs) rest p hw hf some e f is_e hd d signs more ep =
    let front = sign_text s ++ (whole ++ fraction_text fraction) in
    stops_at text (front ++ (mark ∷ (sign_text es ++ (x ∷ xs)))) rest in_exponent p (longer_front front tail rest mark es (x ∷ xs) text e f)
    (leads_then at_start front (place_past_mantissa fraction) (mark ∷ (sign_text es ++ (x ∷ xs))) in_exponent (front_leads s whole fraction hw hf some) (exponent_digits_lead fraction mark es (x ∷ xs) is_e hd (omega arith)))
    (stuck_in_exponent rest d (more (omega arith))) (
      [],
      literal_of s whole fraction (Some (record { mark = mark; sign = es; digits = x ∷ xs })) hw hf some (is_e, hd, omega arith) ((front ++ (mark ∷ (sign_text es ++ (x ∷ xs)))) ++ [])
          (append-nil (front ++ (mark ∷ (sign_text es ++ (x ∷ xs))))),
    ) ep

tail_stops_at : (text tail : List ℕ) (s : Sign) (whole : List ℕ) (fraction : Option (List ℕ)) (left p : ℕ) → AreDigits whole → AreDigits (fraction_digits fraction) → 0 < length (whole ++ fraction_digits fraction) → text ≡ (sign_text s ++ (whole ++ fraction_text fraction)) ++ tail → NoDigitFirst tail → (fraction ≡ None → NotFirst 46 tail) → StopsIn tail left → p ≡ length text - left → IsFaultOf text (NotANumber p)
tail_stops_at text tail s whole fraction left p hw hf some e d np (no_mark c cs et m el) ep =
    let front = sign_text s ++ (whole ++ fraction_text fraction) in
    let P : List ℕ → Type 0 = λ x. NoDigitFirst x in
    let Q : List ℕ → Type 0 = λ x. NotFirst 46 x in
    let lt = ap length et in
    stops_at text front (c ∷ cs) (place_past_mantissa fraction) p (e ∙ ap (λ x. front ++ x) et) (front_leads s whole fraction hw hf some)
    (stuck_past_mantissa fraction c cs (subst P et d) (λ n. subst Q et (np n)) m)
    ([], literal_of s whole fraction None hw hf some tt (front ++ []) refl) (ep ∙ ap (λ x. length text - x) (el ∙ lt))
tail_stops_at text tail s whole fraction left p hw hf some e d np (no_end x rest et is_e hd dr signs more el) ep =
    exponent_stops_at text tail s whole fraction x.mark x.sign x.digits rest p hw hf some e et is_e hd dr signs more (ep ∙ ap (λ n. length text - n) el)

pub stops_behind_digits : (text u rest : List ℕ) (negative : Bool) (t : Tally) (places left p : ℕ) → SplitsSign text negative u → SplitsMantissa u t places rest → 0 < t.digits → StopsIn rest left → p ≡ length text - left → IsFaultOf text (NotANumber p)
stops_behind_digits text u rest negative t places left p s m some stops ep =
    tail_stops_at text rest s.sign m.parts.whole m.parts.fraction left p m.parts.whole_are_digits m.parts.fraction_are_digits (omega (arith, some, m.tally.digits))
    (front_and_rest text u rest s.sign m.parts.whole m.parts.fraction s.split m.parts.split) m.parts.stops m.parts.no_point stops ep
