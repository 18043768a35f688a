-- Settled names: they are words, and well spelled names and the spellings of SPEF's are such.
use Rattle.std.proofs.Common.{◌≡◌, ℕ, ◌≤◌, ◌⊎◌, inl, inr, Bool, true, false, cond, ◌&&◌, ◌||◌, ◌==◌, List, [], ◌∷◌, ◌++◌, refl, sym, ap, ◌∙◌, subst, arith, true≢false}
use Rattle.std.specs.List.{flat_map}
use Rattle.std.proofs.lemmas.Bool.Decides.{Decides-eqb, nat_tests}
use Rattle.name_table.specs.Characters.{Character, bare, escaped, characters}
use Rattle.name_table.specs.SdfNames.{is_plain, spelled, respelled}
use Rattle.name_table.specs.WellSpelled.{IsLetter, plain, taken, IsPiece, alone, with_bit, IsPart, piece, pieces, IsWellSpelled, one_part, parts}
use Rattle.name_table.proofs.Spelling.{stays_alone, well_spelled_stays_lem}
use Rattle.edge_io.specs.Bytes.{begins_with, backslash, slash, left_bracket, right_bracket}
use Rattle.token_texts.specs.ByteLemmas.{not_byte}
use Rattle.sdf_read_back.specs.Names.{begins_comment, IsSettled}
use Rattle.sdf_read_back.proofs.Words.{GoesOn, both_go_on, nothing_goes_on, bare_goes_on, taken_goes_on, begins_from, bare_from, IsWord, always_word, slash_word}
use Rattle.sdf_reader.proofs.Clashes.{never_true, never_false, never_more}

-- ---- bytes

-- letters, digits and `_` are bytes from 48 on
from_48 : (byte : ℕ) → is_plain byte ≡ true → 48 ≤ byte
from_48 byte is = grind (arith, nat_tests)

differs : (byte other : ℕ) → is_plain byte ≡ true → is_plain other ≡ false → (byte == other) ≡ false
differs byte other is is_not = by (byte == other) refl
  where
    by : (same : Bool) → (byte == other) ≡ same → same ≡ false
    by true same = absurd (true≢false (sym is ∙ ap is_plain ((Decides-eqb byte other).0 same) ∙ is_not))
    by false same = refl

letter_goes_on : (byte : ℕ) → is_plain byte ≡ true → GoesOn (byte ∷ [])
letter_goes_on byte is = bare_goes_on byte (bare_from byte (from_48 byte is) (differs byte 92 is refl)) (differs byte 92 is refl)

-- the first byte is one from 48 on
abbrev BeginsHigh : List ℕ → Type 0
BeginsHigh text = (first : ℕ) × (more : List ℕ) × (text ≡ first ∷ more) × (48 ≤ first)

high_and : (one other : List ℕ) → BeginsHigh one → BeginsHigh (one ++ other)
high_and one other high = (high.0, high.1 ++ other, ap (λ l. l ++ other) high.2, high.3)

-- ---- the spelling of a character

abbrev IsLetters : List ℕ → Type 0
IsLetters text = GoesOn text × BeginsHigh text

spelled_is : (byte : ℕ) → IsLetters (spelled byte)
spelled_is byte = by (is_plain byte) refl
  where
    by : (is : Bool) → is_plain byte ≡ is → IsLetters (cond is (byte ∷ []) (backslash ∷ byte ∷ []))
    by true is = (letter_goes_on byte is, (byte, [], refl, from_48 byte is))
    by false is = (taken_goes_on byte, (92, byte ∷ [], refl, omega arith))

bracket_is : (byte : ℕ) → (byte == left_bracket || byte == right_bracket) ≡ true → IsLetters (byte ∷ [])
bracket_is byte is = by (byte == left_bracket) refl (byte == right_bracket) refl is
  where
    by : (opens : Bool) → (byte == left_bracket) ≡ opens → (closes : Bool) → (byte == right_bracket) ≡ closes → (opens || closes) ≡ true → IsLetters (byte ∷ [])
    by true e _ _ either = rw ((Decides-eqb byte left_bracket).0 e) (bare_goes_on 91 refl refl, (91, [], refl, omega arith))
    by false _ true f either = rw ((Decides-eqb byte right_bracket).0 f) (bare_goes_on 93 refl refl, (93, [], refl, omega arith))
    by false _ false _ either = never_true either

-- it is a slash, or begins with a byte from 48 on
abbrev IsRespelled : List ℕ → Type 0
IsRespelled text = (text ≡ 47 ∷ []) ⊎ IsLetters text

respelled_is : (character : Character) → IsRespelled (respelled 47 character)
respelled_is (escaped byte) = inr (spelled_is byte)
respelled_is (bare byte) = by (byte == 47) (byte == left_bracket || byte == right_bracket) refl
  where
    by : (divides bracketed : Bool) → (byte == left_bracket || byte == right_bracket) ≡ bracketed → IsRespelled (cond divides (slash ∷ []) (cond bracketed (byte ∷ []) (spelled byte)))
    by true bracketed is = inl refl
    by false true is = inr (bracket_is byte is)
    by false false is = inr (spelled_is byte)

-- ---- the spelling of characters

abbrev text_of : List Character → List ℕ
text_of name = flat_map (respelled 47) name

slash_goes_on : GoesOn (47 ∷ [])
slash_goes_on = bare_goes_on 47 refl refl

first_goes_on : (text : List ℕ) → IsRespelled text → GoesOn text
first_goes_on text (inl is) = subst GoesOn (sym is) slash_goes_on
first_goes_on text (inr is) = is.0

text_goes_on : (name : List Character) → GoesOn (text_of name)
text_goes_on [] = nothing_goes_on
text_goes_on (first ∷ name) = both_go_on (respelled 47 first) (text_of name) (first_goes_on (respelled 47 first) (respelled_is first)) (text_goes_on name)

-- there is nothing, or the first byte is one from 47 on
abbrev BeginsSo : List ℕ → Type 0
BeginsSo text = (text ≡ []) ⊎ ((first : ℕ) × (more : List ℕ) × (text ≡ first ∷ more) × (47 ≤ first))

first_begins : (text others : List ℕ) → IsRespelled text → BeginsSo (text ++ others)
first_begins text others (inl is) = inr (47, others, ap (λ l. l ++ others) is, omega arith)
first_begins text others (inr is) =
    let high = high_and text others is.1 in
    let least = high.3 in
    inr (high.0, high.1, high.2, omega (arith, least))

text_begins : (name : List Character) → BeginsSo (text_of name)
text_begins [] = inl refl
text_begins (first ∷ name) = first_begins (respelled 47 first) (text_of name) (respelled_is first)

-- what follows a slash begins neither with a slash nor with a star
no_slash_behind : (more : List ℕ) → BeginsSo more → begins_comment (47 ∷ more) ≡ false → (stop : ℕ) (rest : List ℕ) → (stop == 47) ≡ false → (stop == 42) ≡ false
    → (begins_with 47 (more ++ stop ∷ rest) ≡ false) × (begins_with 42 (more ++ stop ∷ rest) ≡ false)
no_slash_behind more (inl is) none stop rest slash star =
    (ap (λ l. begins_with 47 (l ++ stop ∷ rest)) is ∙ slash, ap (λ l. begins_with 42 (l ++ stop ∷ rest)) is ∙ star)
no_slash_behind more (inr (first, others, is, least)) none stop rest slash star =
    let first_is : (first == 47) ≡ false = sym (ap (λ l. begins_comment (47 ∷ l)) is) ∙ none in (
      ap (λ l. begins_with 47 (l ++ stop ∷ rest)) is ∙ first_is,
      ap (λ l. begins_with 42 (l ++ stop ∷ rest)) is ∙ not_byte first 42 (λ e. omega (arith, e, least)),
    )

first_word : (text others : List ℕ) → IsRespelled text → BeginsSo others → GoesOn (text ++ others) → begins_comment (text ++ others) ≡ false → IsWord (text ++ others)
first_word text others (inl is) behind goes none =
    let whole : text ++ others ≡ 47 ∷ others = ap (λ l. l ++ others) is in
    subst IsWord (sym whole) (slash_word others (subst GoesOn whole goes) (no_slash_behind others behind (sym (ap begins_comment whole) ∙ none)))
first_word text others (inr is) behind goes none =
    let high = high_and text others is.1 in
    always_word (text ++ others) (record { first = high.0; more = high.1; splits = high.2; begins = begins_from high.0 high.3; goes_on = goes })

text_word : (name : List Character) → (text_of name ≡ [] → ⊥) → begins_comment (text_of name) ≡ false → IsWord (text_of name)
text_word [] some none = absurd (some refl)
text_word (first ∷ name) some none = first_word (respelled 47 first) (text_of name) (respelled_is first) (text_begins name) (text_goes_on (first ∷ name)) none

-- ---- settled names

pub name_is_word : (name : List ℕ) → IsSettled name → IsWord name
name_is_word name is =
    subst IsWord is.stays (text_word (characters name) (λ e. is.some (sym is.stays ∙ e)) (ap begins_comment is.stays ∙ is.no_comment))

-- ---- well spelled names

letter_begins : (letter : List ℕ) → IsLetter letter → BeginsHigh letter
letter_begins letter (plain {byte} is) = (byte, [], refl, from_48 byte is)
letter_begins letter (taken {byte} is_not) = (92, byte ∷ [], refl, omega arith)

piece_begins : (text : List ℕ) → IsPiece text → BeginsHigh text
piece_begins text (alone {letter} is) = letter_begins letter is
piece_begins text (with_bit {letter} first digits is all) =
    high_and (letter ++ left_bracket ∷ first ∷ digits) (right_bracket ∷ []) (high_and letter (left_bracket ∷ first ∷ digits) (letter_begins letter is))

part_begins : (text : List ℕ) → IsPart text → BeginsHigh text
part_begins text (piece {last} is) = piece_begins last is
part_begins text (pieces {first} {rest} is more) = high_and first rest (piece_begins first is)

name_begins : (name : List ℕ) → IsWellSpelled name → BeginsHigh name
name_begins name (one_part {part} is) = part_begins part is
name_begins name (parts {part} {rest} is more) = high_and part (slash ∷ rest) (part_begins part is)

no_comment_first : (first : ℕ) (more : List ℕ) → 48 ≤ first → begins_comment (first ∷ more) ≡ false
no_comment_first first [] least = refl
no_comment_first first (second ∷ rest) least = by (first == slash) (not_byte first 47 (λ e. omega (arith, e, least)))
  where
    by : (is : Bool) → is ≡ false → (is && second == slash) ≡ false
    by true e = never_false e
    by false e = refl

pub well_spelled_settles : (name : List ℕ) → IsWellSpelled name → IsSettled name
well_spelled_settles name is =
    let begins = name_begins name is in
    record {
      stays = stays_alone name (well_spelled_stays_lem name is);
      some = λ e. never_more (sym e ∙ begins.2);
      no_comment = ap begins_comment begins.2 ∙ no_comment_first begins.0 begins.1 begins.3;
    }
