-- The member in front of a text: it ends before the first colon, where it is a number.
use Rattle.std.proofs.Common.{◌≡◌, ℕ, ◌+◌, Bool, true, false, true≢false, ◌==◌, List, ◌∷◌, length, take, drop, Option, Some, None, position, Result, Err, sym, ap, ◌∙◌, refl, subst}
use Rattle.std.proofs.Math.Seq.{take-length}
use Rattle.corner_set.specs.declared.pick.Pick.TheVariants.{Min, Typ}
use Rattle.delay_units.specs.LiteralFronts.{IsLiteralFront, HasNoLiteralFront}
use Rattle.delay_units.specs.Parts.{NotFirst}
use Rattle.delay_units.specs.Places.{is_literal}
use Rattle.delay_units.specs.declared.numbers.Unit.{Unit}
use Rattle.delay_units.proofs.FrontLemmas.{whole_front, literal_is_front}
use Rattle.delay_units.proofs.LiteralShape.{literal_has_parts, literal_ends}
use Rattle.spef_text.specs.Classes.{is_colon}
use Rattle.spef_text.proofs.Parting.{literal_without_colon, colon_position, first_taken, behind_dropped, no_first, no_literal_before}
use Rattle.spef_nets.specs.Values.{Triple, single, triple_behind, triple_at, triple_of, IsBad, unread, IsAnswerOf}
use Rattle.spef_nets.specs.declared.amounts.AmountFault.{AmountFault}
use Rattle.spef_nets.specs.declared.amounts.AmountFault.TheVariants.{BadNumber}
use Rattle.spef_nets.specs.declared.amounts.Grains.{Grains}

-- the member that ends before the colon at this place, or at the end where there is none
abbrev before : List ℕ → Option ℕ → List ℕ
before text None = text
before text (Some colon) = take colon text

-- ---- a literal in front, and its colon or the end

same_behind : (first text front behind : List ℕ) → IsLiteralFront text front (58 ∷ behind) → triple_behind first text (Some (length front)) ≡ record { min = first; typ = front; max = behind }
same_behind first text front behind f =
    ap (λ typ. record { min = first; typ = typ; max = drop (length front + 1) text }) (first_taken text front (58 ∷ behind) f.split)
    ∙ ap (λ max. record { min = first; typ = front; max = max }) (behind_dropped text front behind f.split)

pub colon_behind : (first text front behind rest : List ℕ) → IsLiteralFront text front rest → rest ≡ 58 ∷ behind → triple_behind first text (position is_colon text) ≡ record { min = first; typ = front; max = behind }
colon_behind first text front behind rest f e =
    let P : List ℕ → Type 0 = λ x. IsLiteralFront text front x in
    let g = subst P e f in
    ap (triple_behind first text) (colon_position text front behind g) ∙ same_behind first text front behind g

pub colon_of : (text front behind rest : List ℕ) → IsLiteralFront text front rest → rest ≡ 58 ∷ behind → triple_of text ≡ triple_behind front behind (position is_colon behind)
colon_of text front behind rest f e =
    let P : List ℕ → Type 0 = λ x. IsLiteralFront text front x in
    let g = subst P e f in
    ap (triple_at text) (colon_position text front behind g)
    ∙ ap (λ first. triple_behind first (drop (length front + 1) text) (position is_colon (drop (length front + 1) text))) (first_taken text front (58 ∷ behind) g.split)
    ∙ ap (λ others. triple_behind front others (position is_colon others)) (behind_dropped text front behind g.split)

whole_literal : (text front rest : List ℕ) → IsLiteralFront text front rest → length rest ≡ 0 → is_literal text ≡ true
whole_literal text front rest f none = ap is_literal (sym (whole_front text front rest f none)) ∙ literal_ends front f.literal

pub no_colon_behind : (first text front rest : List ℕ) → IsLiteralFront text front rest → length rest ≡ 0 → triple_behind first text (position is_colon text) ≡ record { min = first; typ = front; max = front }
no_colon_behind first text front rest f none =
    ap (triple_behind first text) (literal_without_colon text (whole_literal text front rest f none))
    ∙ ap (λ text. record { min = first; typ = text; max = text }) (sym (whole_front text front rest f none))

pub no_colon_of : (text front rest : List ℕ) → IsLiteralFront text front rest → length rest ≡ 0 → triple_of text ≡ single front
no_colon_of text front rest f none =
    ap (triple_at text) (literal_without_colon text (whole_literal text front rest f none)) ∙ ap single (sym (whole_front text front rest f none))

-- ---- no literal there, or one that goes on

bad_text : (unit : Unit) (text : List ℕ) → is_literal text ≡ false → IsBad unit text
bad_text unit text other = unread (λ number reads. true≢false (sym (literal_ends text (reads.literal, reads.spells)) ∙ other))

none_before : (text : List ℕ) (p : Option ℕ) → HasNoLiteralFront text → is_literal (before text p) ≡ false
none_before text None none = sym (ap is_literal (take-length text)) ∙ no_literal_before text none (length text)
none_before text (Some k) none = no_literal_before text none k

not_whole : (text front rest : List ℕ) → IsLiteralFront text front rest → (length rest == 0) ≡ false → (b : Bool) → is_literal text ≡ b → is_literal text ≡ false
not_whole text front rest f some true is =
    absurd (true≢false (sym (ap (λ n. n == 0) (literal_is_front text front rest f (literal_has_parts text is))) ∙ some))
not_whole text front rest f some false is = is

other_before : (text front rest : List ℕ) (p : Option ℕ) → position is_colon text ≡ p → IsLiteralFront text front rest → NotFirst 58 rest → (length rest == 0) ≡ false → is_literal (before text p) ≡ false
other_before text front rest None e f none some = not_whole text front rest f some (is_literal text) refl
other_before text front rest (Some k) e f none some = no_first text front rest f none k e

bad_first : (unit : Unit) (most : ℕ) (text : List ℕ) (p : Option ℕ) → is_literal (before text p) ≡ false → IsAnswerOf unit most (triple_at text p) (Err BadNumber)
bad_first unit most text None other = (tt, (Min, bad_text unit text other))
bad_first unit most text (Some k) other = (tt, (Min, min (position is_colon (drop (k + 1) text))))
  where
    min : (p : Option ℕ) → IsBad unit (triple_behind (take k text) (drop (k + 1) text) p).min
    min None = bad_text unit (take k text) other
    min (Some j) = bad_text unit (take k text) other

bad_second : (unit : Unit) (most : ℕ) (first text : List ℕ) (p : Option ℕ) → is_literal (before text p) ≡ false → IsAnswerOf unit most (triple_behind first text p) (Err BadNumber)
bad_second unit most first text None other = (tt, (Typ, bad_text unit text other))
bad_second unit most first text (Some k) other = (tt, (Typ, bad_text unit (take k text) other))

pub none_of : (unit : Unit) (most : ℕ) (text : List ℕ) → HasNoLiteralFront text → IsAnswerOf unit most (triple_of text) (Err BadNumber)
none_of unit most text none = bad_first unit most text (position is_colon text) (none_before text (position is_colon text) none)

pub none_behind : (unit : Unit) (most : ℕ) (first text : List ℕ) → HasNoLiteralFront text → IsAnswerOf unit most (triple_behind first text (position is_colon text)) (Err BadNumber)
none_behind unit most first text none = bad_second unit most first text (position is_colon text) (none_before text (position is_colon text) none)

pub other_of : (unit : Unit) (most : ℕ) (text front rest : List ℕ) → IsLiteralFront text front rest → NotFirst 58 rest → (length rest == 0) ≡ false → IsAnswerOf unit most (triple_of text) (Err BadNumber)
other_of unit most text front rest f none some = bad_first unit most text (position is_colon text) (other_before text front rest (position is_colon text) refl f none some)

pub other_behind : (unit : Unit) (most : ℕ) (first text front rest : List ℕ) → IsLiteralFront text front rest → NotFirst 58 rest → (length rest == 0) ≡ false
    → IsAnswerOf unit most (triple_behind first text (position is_colon text)) (Err BadNumber)
other_behind unit most first text front rest f none some = bad_second unit most first text (position is_colon text) (other_before text front rest (position is_colon text) refl f none some)

-- the answer for the same members
pub answer_for : (unit : Unit) (most : ℕ) (some other : Triple) (r : Result Grains AmountFault) → other ≡ some → IsAnswerOf unit most some r → IsAnswerOf unit most other r
answer_for unit most some other r e is = subst (λ (t : Triple). IsAnswerOf unit most t r) (sym e) is
