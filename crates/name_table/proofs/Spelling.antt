-- Spellings that are their own canonical spelling.
use Rattle.std.proofs.Common.{◌≡◌, ◌≢◌, ℕ, Bool, true, false, ◌&&◌, ◌||◌, List, [], ◌∷◌, ◌++◌, if◌then◌else◌, refl, sym, ap, subst, ◌∙◌, append_assoc, true≢false}
use Rattle.std.specs.Prelude.{◌==◌, Option, Some, None, Result, Ok, Err, IfOk}
use Rattle.std.specs.Char.{is_ascii_digit}
use Rattle.std.specs.Int.{is_in_range}
use Rattle.std.specs.List.{flat_map, list_all}
use Rattle.std.proofs.lemmas.Bool.Decides.{Decides-eqb}
use Rattle.std.proofs.lemmas.List.{append-nil}
use Rattle.name_table.specs.Characters.{Character, bare, escaped, characters, after_backslash}
use Rattle.edge_io.specs.Bytes.{slash, left_bracket, backslash, right_bracket}
use Rattle.name_table.specs.SdfNames.{is_plain, spelled, part, respelled, canonical}
use Rattle.name_table.specs.SpefNames.{Halves, mark_or_spelled, sdf_of, spelling_of, node_of}
use Rattle.name_table.specs.declared.spef_names.SpefMarks.{SpefMarks}
use Rattle.name_table.specs.WellSpelled.{IsLetter, plain, taken, IsPiece, alone, with_bit, IsPart, piece, pieces, IsWellSpelled, one_part, parts}

-- the text stands in every canonical spelling as it is
abbrev pub Stays : List ℕ → Type 0
Stays text = (rest : List ℕ) → canonical slash (text ++ rest) ≡ text ++ canonical slash rest

pub stays_alone : (text : List ℕ) → Stays text → canonical slash text ≡ text
stays_alone text stays = ap (canonical slash) (sym (append-nil text)) ∙ stays [] ∙ append-nil text

pub nothing_stays : Stays []
nothing_stays rest = refl

pub both_stay : (one other : List ℕ) → Stays one → Stays other → Stays (one ++ other)
both_stay one other first second rest =
    ap (canonical slash) (append_assoc one other rest) ∙ first (other ++ rest) ∙ ap (λ text. one ++ text) (second rest) ∙ sym (append_assoc one other (canonical slash rest))

pub each_stays : {A : Type 0} (of : A → List ℕ) → ((item : A) → Stays (of item)) → (items : List A) → Stays (flat_map of items)
each_stays of stays [] = nothing_stays
each_stays of stays (item ∷ items) = both_stay (of item) (flat_map of items) (stays item) (each_stays of stays items)

pub slash_stays : Stays (slash ∷ [])
slash_stays rest = refl

pub left_bracket_stays : Stays (left_bracket ∷ [])
left_bracket_stays rest = refl

pub right_bracket_stays : Stays (right_bracket ∷ [])
right_bracket_stays rest = refl

-- a plain byte is none that is not plain
differs : (byte other : ℕ) → is_plain byte ≡ true → is_plain other ≡ false → (byte == other) ≡ false
differs byte other is is_not = by (byte == other) refl
  where
    by : (same : Bool) → (byte == other) ≡ same → same ≡ false
    by true same = absurd (true≢false (sym is ∙ ap is_plain ((Decides-eqb byte other).0 same) ∙ is_not))
    by false same = refl

pub plain_stays : (byte : ℕ) → is_plain byte ≡ true → Stays (byte ∷ [])
plain_stays byte is rest =
    ap (flat_map (respelled slash)) (ap (λ slashed. elim slashed as (λ _. List Character) [ true ↦ after_backslash rest | false ↦ bare byte ∷ characters rest ]) (differs byte backslash is refl))
    ∙ ap (λ text. text ++ canonical slash rest) (as_it_is (byte == slash) (byte == left_bracket) (byte == right_bracket) (differs byte slash is refl) (differs byte left_bracket is refl) (differs byte right_bracket is refl) (is_plain byte) is)
  where
    as_it_is : (a b c : Bool) → a ≡ false → b ≡ false → c ≡ false → (d : Bool) → d ≡ true
        → (if a then slash ∷ [] else if b || c then byte ∷ [] else if d then byte ∷ [] else backslash ∷ byte ∷ []) ≡ byte ∷ []
    as_it_is a b c no_a no_b no_c d is_plain = (λ i. if no_a i then slash ∷ [] else if no_b i || no_c i then byte ∷ [] else if is_plain i then byte ∷ [] else backslash ∷ byte ∷ [])

spelled_plain : (byte : ℕ) → is_plain byte ≡ true → spelled byte ≡ byte ∷ []
spelled_plain byte is = ap (λ plain. if plain then byte ∷ [] else backslash ∷ byte ∷ []) is

spelled_other : (byte : ℕ) → is_plain byte ≡ false → spelled byte ≡ backslash ∷ byte ∷ []
spelled_other byte is_not = ap (λ plain. if plain then byte ∷ [] else backslash ∷ byte ∷ []) is_not

pub taken_stays : (byte : ℕ) → is_plain byte ≡ false → Stays (backslash ∷ byte ∷ [])
taken_stays byte is_not rest = ap (λ text. text ++ canonical slash rest) (spelled_other byte is_not)

pub spelled_stays : (byte : ℕ) → Stays (spelled byte)
spelled_stays byte = by (is_plain byte) refl
  where
    by : (plain : Bool) → is_plain byte ≡ plain → Stays (if plain then byte ∷ [] else backslash ∷ byte ∷ [])
    by true is = plain_stays byte is
    by false is_not = taken_stays byte is_not

pub part_stays : (name : List ℕ) → Stays (part name)
part_stays name = each_stays spelled spelled_stays name

bracket : (byte : ℕ) → (byte == left_bracket || byte == right_bracket) ≡ true → Stays (byte ∷ [])
bracket byte is = by (byte == left_bracket) refl (byte == right_bracket) refl is
  where
    by : (left : Bool) → (byte == left_bracket) ≡ left → (right : Bool) → (byte == right_bracket) ≡ right → (left || right) ≡ true → Stays (byte ∷ [])
    by true is right _ either = rw ((Decides-eqb byte left_bracket).0 is) left_bracket_stays
    by false _ true is either = rw ((Decides-eqb byte right_bracket).0 is) right_bracket_stays
    by false _ false _ either = cc

respelled_stays : (divider : ℕ) (character : Character) → Stays (respelled divider character)
respelled_stays divider (escaped byte) = spelled_stays byte
respelled_stays divider (bare byte) = by (byte == divider) (byte == left_bracket || byte == right_bracket) refl
  where
    by : (divides bracketed : Bool) → (byte == left_bracket || byte == right_bracket) ≡ bracketed → Stays (if divides then slash ∷ [] else if bracketed then byte ∷ [] else spelled byte)
    by true bracketed is = slash_stays
    by false true is = bracket byte is
    by false false is = spelled_stays byte

pub canonical_stays : (divider : ℕ) (word : List ℕ) → Stays (canonical divider word)
canonical_stays divider word = each_stays (respelled divider) (respelled_stays divider) (characters word)

-- the spelling of a name of SPEF
sdf_of_stays : (marks : SpefMarks) (character : Character) → Stays (sdf_of marks character)
sdf_of_stays marks (escaped byte) = spelled_stays byte
sdf_of_stays marks (bare byte) = by (byte == marks.divider) (byte == marks.left) (byte == marks.right)
  where
    by : (divides begins ends : Bool) → Stays (mark_or_spelled (if divides then Some slash else if begins then Some left_bracket else if ends then Some right_bracket else None) byte)
    by true begins ends = slash_stays
    by false true ends = left_bracket_stays
    by false false true = right_bracket_stays
    by false false false = spelled_stays byte

pub node_stays : (marks : SpefMarks) (name : List Character) (cut : Option Halves) → Stays (node_of marks name cut).sdf
node_stays marks name None = each_stays (sdf_of marks) (sdf_of_stays marks) name
node_stays marks name (Some halves) =
    both_stay (spelling_of marks halves.front) (slash ∷ spelling_of marks halves.back) (each_stays (sdf_of marks) (sdf_of_stays marks) halves.front)
    (both_stay (slash ∷ []) (spelling_of marks halves.back) slash_stays (each_stays (sdf_of marks) (sdf_of_stays marks) halves.back))

-- well spelled names
letter_stays : (letter : List ℕ) → IsLetter letter → Stays letter
letter_stays letter (plain {byte} is) = plain_stays byte is
letter_stays letter (taken {byte} is_not) = taken_stays byte is_not

digit_is_plain : (byte : ℕ) → is_ascii_digit byte ≡ true → is_plain byte ≡ true
digit_is_plain byte is = ap (λ digit. ((digit || is_in_range 65 90 byte) || is_in_range 97 122 byte) || byte == 95) is

digits_stay : (digits : List ℕ) → list_all is_ascii_digit digits ≡ true → Stays digits
digits_stay [] all = nothing_stays
digits_stay (digit ∷ digits) all = by (is_ascii_digit digit) refl (digits_stay digits) all
  where
    by : (is : Bool) → is_ascii_digit digit ≡ is → (list_all is_ascii_digit digits ≡ true → Stays digits) → (is && list_all is_ascii_digit digits) ≡ true → Stays (digit ∷ digits)
    by true is rest all = both_stay (digit ∷ []) digits (plain_stays digit (digit_is_plain digit is)) (rest all)
    by false is rest all = cc

piece_stays : (text : List ℕ) → IsPiece text → Stays text
piece_stays text (alone {letter} is) = letter_stays letter is
piece_stays text (with_bit {letter} first digits is all) =
    both_stay (letter ++ left_bracket ∷ first ∷ digits) (right_bracket ∷ [])
    (both_stay letter (left_bracket ∷ first ∷ digits) (letter_stays letter is) (both_stay (left_bracket ∷ []) (first ∷ digits) left_bracket_stays (digits_stay (first ∷ digits) all)))
    right_bracket_stays

part_of_name_stays : (text : List ℕ) → IsPart text → Stays text
part_of_name_stays text (piece {last} is) = piece_stays last is
part_of_name_stays text (pieces {first} {rest} is more) = both_stay first rest (piece_stays first is) (part_of_name_stays rest more)

pub well_spelled_stays_lem : (name : List ℕ) → IsWellSpelled name → Stays name
well_spelled_stays_lem name (one_part {part} is) = part_of_name_stays part is
well_spelled_stays_lem name (parts {part} {rest} is more) = both_stay part (slash ∷ rest) (part_of_name_stays part is) (both_stay (slash ∷ []) rest slash_stays (well_spelled_stays_lem rest more))

-- an answer that is made of such bytes
pub settled_as : {E : Type 0} (result : Result (List ℕ) E) (text made : List ℕ) → IfOk result (λ answer. answer ≡ text) → text ≡ made → Stays made → IfOk result (λ answer. canonical slash answer ≡ answer)
settled_as (Ok answer) text made is from stays = ap (canonical slash) (is ∙ from) ∙ stays_alone made stays ∙ sym (is ∙ from)
settled_as (Err error) text made is from stays = tt

-- a name that is escaped is a part
pub spelled_is_letter : (byte : ℕ) → IsLetter (spelled byte)
spelled_is_letter byte = by (is_plain byte) refl
  where
    by : (is : Bool) → is_plain byte ≡ is → IsLetter (if is then byte ∷ [] else backslash ∷ byte ∷ [])
    by true is = plain is
    by false is_not = taken is_not

pub part_is_part : (name : List ℕ) → name ≢ [] → IsPart (part name)
part_is_part [] some = absurd (some refl)
part_is_part (byte ∷ []) some = subst IsPart (sym (append-nil (spelled byte))) (piece (alone (spelled_is_letter byte)))
part_is_part (byte ∷ next ∷ rest) some = pieces (alone (spelled_is_letter byte)) (part_is_part (next ∷ rest) (λ none. cc))

pub escaped_as : {E : Type 0} (result : Result (List ℕ) E) (text name : List ℕ) → IfOk result (λ answer. answer ≡ text) → text ≡ part name → name ≢ [] → IfOk result (λ answer. IsPart answer)
escaped_as (Ok answer) text name is from some = subst IsPart (sym (is ∙ from)) (part_is_part name some)
escaped_as (Err error) text name is from some = tt
