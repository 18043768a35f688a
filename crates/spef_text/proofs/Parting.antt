-- A text parted at its first colon, and the literal in front of it, which has none.
use Rattle.std.proofs.Common.{◌≡◌, ℕ, suc, ◌+◌, ◌<◌, Bool, true, false, true≢false, ◌&&◌, ◌==◌, not, cond, nat_lt, List, [], ◌∷◌, ◌++◌, length, length-append, take, drop, Option, Some, None, position, refl, sym, ap, ◌∙◌, subst, arith, eqb-true}
use Rattle.std.specs.List.{prefix_len}
use Rattle.std.proofs.Math.Seq.{take-length, take-append_seam, drop-append-add}
use Rattle.std.proofs.lemmas.Bool.{lt-leb, lt-ltb}
use Rattle.std.proofs.lemmas.List.{append-nil, take-append-drop, length-take-le}
use Rattle.std.proofs.lemmas.List.Quantifiers.{position-Some}
use Rattle.delay_units.specs.LiteralFronts.{IsLiteralFront, HasNoLiteralFront}
use Rattle.delay_units.specs.Parts.{NotFirst}
use Rattle.delay_units.specs.Places.{Place, at_start, past_sign, in_whole, past_point, in_fraction, past_mark, past_exponent_sign, in_exponent, place_after, place_behind, ends_literal, is_literal}
use Rattle.delay_units.proofs.FrontLemmas.{literal_is_front}
use Rattle.delay_units.proofs.LiteralShape.{literal_has_parts, literal_ends}
use Rattle.delay_units.proofs.PlaceLemmas.{none_stays}
use Rattle.spef_text.specs.Classes.{is_colon, are_two_literals, is_value_parted, is_value}

value_parted : (text : List ℕ) (colon : ℕ) (first tail : List ℕ) → position is_colon text ≡ Some colon → take colon text ≡ first → drop (colon + 1) text ≡ tail → is_literal first ≡ true
    → is_value text ≡ are_two_literals tail (position is_colon tail)
unfolding is_value
value_parted text colon first tail at p q is =
    ap (is_value_parted text) at ∙ ap (λ b. b && are_two_literals (drop (colon + 1) text) (position is_colon (drop (colon + 1) text))) (ap is_literal p ∙ is)
    ∙ ap (λ l. are_two_literals l (position is_colon l)) q

two_parted : (text : List ℕ) (colon : ℕ) (first tail : List ℕ) → position is_colon text ≡ Some colon → take colon text ≡ first → drop (colon + 1) text ≡ tail → is_literal first ≡ true
    → are_two_literals text (position is_colon text) ≡ is_literal tail
two_parted text colon first tail at p q is =
    ap (are_two_literals text) at ∙ ap (λ b. b && is_literal (drop (colon + 1) text)) (ap is_literal p ∙ is) ∙ ap is_literal q

-- ---- no literal has a colon

no_place_at_colon : (p : Place) → place_after p 58 ≡ None
no_place_at_colon at_start = refl
no_place_at_colon past_sign = refl
no_place_at_colon in_whole = refl
no_place_at_colon past_point = refl
no_place_at_colon in_fraction = refl
no_place_at_colon past_mark = refl
no_place_at_colon past_exponent_sign = refl
no_place_at_colon in_exponent = refl

-- how many bytes stand before the first colon
abbrev before_colon : List ℕ → ℕ
before_colon text = prefix_len (λ byte. not (is_colon byte)) text

one_before : (c : ℕ) (cs : List ℕ) → is_colon c ≡ false → before_colon (c ∷ cs) ≡ 1 + before_colon cs
one_before c cs no_colon = simp no_colon refl

abbrev Ends : Option Place → List ℕ → Type 0
Ends place text = ends_literal (place_behind place text) ≡ true

nothing_ends : (text : List ℕ) (place : Option Place) → place ≡ None → Ends place text → ⊥
nothing_ends text place none ends = true≢false (sym ends ∙ ap (λ p. ends_literal (place_behind p text)) none ∙ ap ends_literal (none_stays text))

passed : (place : Place) (text rest : List ℕ) → Ends (Some place) text → before_colon (text ++ rest) ≡ length text + before_colon rest
passed place [] rest ends = omega arith
passed place (c ∷ cs) rest ends = by (is_colon c) refl (place_after place c) refl (λ next. passed next cs rest)
  where
    by : (t : Bool) → is_colon c ≡ t → (after : Option Place) → place_after place c ≡ after
        → ((next : Place) → Ends (Some next) cs → before_colon (cs ++ rest) ≡ length cs + before_colon rest) → before_colon (c ∷ (cs ++ rest)) ≡ length (c ∷ cs) + before_colon rest
    by true e after f further = absurd (nothing_ends cs (place_after place c) (ap (place_after place) (eqb-true c 58 e) ∙ no_place_at_colon place) ends)
    by false e None f further = absurd (nothing_ends cs (place_after place c) f ends)
    by false e (Some next) f further =
        let one = one_before c (cs ++ rest) e in
        let more = further next (ap (λ p. ends_literal (place_behind p cs)) (sym f) ∙ ends) in
        omega (arith, one, more)

-- a literal is passed over whole
literal_passed : (front rest : List ℕ) → is_literal front ≡ true → before_colon (front ++ rest) ≡ length front + before_colon rest
unfolding is_literal
literal_passed front rest is = passed at_start front rest is

position_at : (text : List ℕ) (n : ℕ) → before_colon text ≡ n → n < length text → position is_colon text ≡ Some n
position_at text n e l =
    ap (λ k. cond (nat_lt k (length text)) (Some k) None) e ∙ ap (λ t. cond t (Some n) None) (lt-ltb n (length text) l)

position_none : (text : List ℕ) → before_colon text ≡ length text → position is_colon text ≡ None
position_none text e =
    ap (λ n. cond (nat_lt n (length text)) (Some n) None) e
    ∙ ap (λ t. cond t (Some (length text)) None) (lt-leb (suc (length text)) (length text) (omega arith))

is_position : (text : List ℕ) (k : ℕ) → position is_colon text ≡ Some k → before_colon text ≡ k
is_position text k e = by (nat_lt (before_colon text) (length text)) e
  where
    by : (t : Bool) → cond t (Some (before_colon text)) None ≡ Some k → before_colon text ≡ k
    by true e = cc
    by false e = cc

pub literal_without_colon : (text : List ℕ) → is_literal text ≡ true → position is_colon text ≡ None
literal_without_colon text is =
    let all = literal_passed text [] is in
    let same = ap before_colon (append-nil text) in
    position_none text (omega (arith, all, same))

pub one_literal_is_value : (text : List ℕ) → is_literal text ≡ true → is_value text ≡ true
unfolding is_value
one_literal_is_value text is = ap (is_value_parted text) (literal_without_colon text is) ∙ is

-- ---- a text with a literal in front, the longest that is one

literal_front : (text front rest : List ℕ) → IsLiteralFront text front rest → is_literal front ≡ true
literal_front text front rest f = literal_ends front f.literal

-- a colon behind the literal is the first one
pub colon_position : (text front behind : List ℕ) → IsLiteralFront text front (58 ∷ behind) → position is_colon text ≡ Some (length front)
colon_position text front behind f =
    let passed = literal_passed front (58 ∷ behind) (literal_front text front (58 ∷ behind) f) in
    let same = ap before_colon f.split in
    let count = ap length f.split ∙ length-append front (58 ∷ behind) in
    position_at text (length front) (omega (arith, passed, same)) (omega (arith, count))

pub first_taken : (text front rest : List ℕ) → text ≡ front ++ rest → take (length front) text ≡ front
first_taken text front rest e = ap (take (length front)) e ∙ take-append_seam front rest

pub behind_dropped : (text front behind : List ℕ) → text ≡ front ++ (58 ∷ behind) → drop (length front + 1) text ≡ behind
behind_dropped text front behind e = ap (drop (length front + 1)) e ∙ drop-append-add front (58 ∷ behind) 1

pub colon_value : (text front behind rest : List ℕ) → IsLiteralFront text front rest → rest ≡ 58 ∷ behind → is_value text ≡ are_two_literals behind (position is_colon behind)
colon_value text front behind rest f e =
    let P : List ℕ → Type 0 = λ x. IsLiteralFront text front x in
    let g = subst P e f in
    value_parted text (length front) front behind (colon_position text front behind g) (first_taken text front (58 ∷ behind) g.split) (behind_dropped text front behind g.split) (literal_front text front (58 ∷ behind) g)

pub colon_two : (text front behind rest : List ℕ) → IsLiteralFront text front rest → rest ≡ 58 ∷ behind → are_two_literals text (position is_colon text) ≡ is_literal behind
colon_two text front behind rest f e =
    let P : List ℕ → Type 0 = λ x. IsLiteralFront text front x in
    let g = subst P e f in
    two_parted text (length front) front behind (colon_position text front behind g) (first_taken text front (58 ∷ behind) g.split) (behind_dropped text front behind g.split) (literal_front text front (58 ∷ behind) g)

-- where no colon is behind the literal, the text before a colon is no literal
pub no_first : (text front rest : List ℕ) → IsLiteralFront text front rest → NotFirst 58 rest → (k : ℕ) → position is_colon text ≡ Some k → is_literal (take k text) ≡ false
no_first text front rest f none k at = not_true (is_literal (take k text)) (λ is. past rest f none is)
  where
    not_true : (b : Bool) → (b ≡ true → ⊥) → b ≡ false
    not_true true h = absurd (h refl)
    not_true false h = refl

    past : (rest : List ℕ) → IsLiteralFront text front rest → NotFirst 58 rest → is_literal (take k text) ≡ true → ⊥
    past [] f none is =
        let passed = literal_passed front [] (literal_front text front [] f) in
        let same = ap before_colon f.split in
        let here = is_position text k at in
        let within = (position-Some is_colon text k 0 at).0 in
        let count = ap length f.split ∙ length-append front [] in
        omega (arith, passed, same, here, within, count)
    past (x ∷ xs) f none is =
        let passed = literal_passed front (x ∷ xs) (literal_front text front (x ∷ xs) f) in
        let same = ap before_colon f.split in
        let here = is_position text k at in
        let within = (position-Some is_colon text k 0 at).0 in
        let longest = f.longest (take k text) (drop k text) (sym (take-append-drop k text)) (literal_has_parts (take k text) is) in
        let taken = length-take-le k text (omega (arith, within)) in
        let one = one_before x xs none in
        omega (arith, passed, same, here, longest, taken, one)

no_value_at : (text : List ℕ) (p : Option ℕ) → is_literal text ≡ false → ((k : ℕ) → p ≡ Some k → is_literal (take k text) ≡ false) → is_value_parted text p ≡ false
no_value_at text None whole first = whole
no_value_at text (Some k) whole first = ap (λ b. b && are_two_literals (drop (k + 1) text) (position is_colon (drop (k + 1) text))) (first k refl)

no_two_at : (text : List ℕ) (p : Option ℕ) → ((k : ℕ) → p ≡ Some k → is_literal (take k text) ≡ false) → are_two_literals text p ≡ false
no_two_at text None first = refl
no_two_at text (Some k) first = ap (λ b. b && is_literal (drop (k + 1) text)) (first k refl)

pub no_colon_two : (text front rest : List ℕ) → IsLiteralFront text front rest → NotFirst 58 rest → are_two_literals text (position is_colon text) ≡ false
no_colon_two text front rest f none = no_two_at text (position is_colon text) (no_first text front rest f none)

-- a text with no colon behind its literal is a value where it is the literal
pub no_colon_value : (text front rest : List ℕ) (empty : Bool) → IsLiteralFront text front rest → NotFirst 58 rest → empty ≡ (length rest == 0) → empty ≡ is_value text
unfolding is_value
no_colon_value text front [] empty f none e =
    e ∙ sym (one_literal_is_value text (ap is_literal (f.split ∙ append-nil front) ∙ literal_front text front [] f))
no_colon_value text front (x ∷ xs) empty f none e = by empty refl
  where
    longer : is_literal text ≡ true → ⊥
    longer is = let none = literal_is_front text front (x ∷ xs) f (literal_has_parts text is) in omega (arith, none)

    by : (b : Bool) → empty ≡ b → empty ≡ is_value text
    by true is = let zero = eqb-true (length (x ∷ xs)) 0 (sym e ∙ is) in absurd (omega (arith, zero))
    by false is = is ∙ sym (no_value_at text (position is_colon text) (not_literal (is_literal text) refl) (no_first text front (x ∷ xs) f none))
      where
        not_literal : (b : Bool) → is_literal text ≡ b → is_literal text ≡ false
        not_literal true is = absurd (longer is)
        not_literal false is = is

-- ---- a text with no literal in front

pub no_literal_before : (text : List ℕ) → HasNoLiteralFront text → (k : ℕ) → is_literal (take k text) ≡ false
no_literal_before text none k = by (is_literal (take k text)) refl
  where
    by : (b : Bool) → is_literal (take k text) ≡ b → is_literal (take k text) ≡ false
    by true is = absurd (none (take k text) (drop k text) (sym (take-append-drop k text)) (literal_has_parts (take k text) is))
    by false is = is

pub none_two : (text : List ℕ) → HasNoLiteralFront text → are_two_literals text (position is_colon text) ≡ false
none_two text none = no_two_at text (position is_colon text) (λ k _. no_literal_before text none k)

pub none_value : (text : List ℕ) → HasNoLiteralFront text → is_value text ≡ false
unfolding is_value
none_value text none =
    no_value_at text (position is_colon text) (sym (ap is_literal (take-length text)) ∙ no_literal_before text none (length text)) (λ k _. no_literal_before text none k)
