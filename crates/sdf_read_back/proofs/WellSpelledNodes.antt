-- When the spelling of a node is well spelled.
use Rattle.std.proofs.Common.{◌≡◌, ℕ, Bool, true, false, cond, ◌==◌, List, [], ◌∷◌, ◌++◌, map, Option, Some, None, refl, sym, ap, ap₂, ◌∙◌, subst, append_assoc, true≢false, arith}
use Rattle.std.specs.Prelude.{⊤}
use Rattle.std.specs.Char.{is_ascii_digit}
use Rattle.std.specs.List.{flat_map, list_all}
use Rattle.std.proofs.lemmas.Bool.Decides.{nat_tests}
use Rattle.std.proofs.lemmas.List.{append-nil}
use Rattle.std.proofs.lemmas.Grind.{flat_map-append}
use Rattle.name_table.specs.Characters.{Character, bare, escaped}
use Rattle.edge_io.specs.Bytes.{slash, left_bracket, backslash, right_bracket}
use Rattle.name_table.specs.SdfNames.{is_plain, spelled}
use Rattle.name_table.specs.SpefNames.{meaning, mark_or_spelled, sdf_of, spelling_of}
use Rattle.name_table.specs.WellSpelled.{IsLetter, plain, taken, IsPiece, IsPart, IsWellSpelled}
use Rattle.name_table.specs.WellSpelled as sdf
use Rattle.name_table.proofs.Spelling.{spelled_is_letter}
use Rattle.name_table.specs.declared.spef_names.SpefMarks.{SpefMarks}
use Rattle.sdf_read_back.specs.WellSpelledNodes.{Symbol, letter, mark, mark_or_letter, symbol_of, symbols_of, IsPieceOf, alone, with_bit, IsPartOf, piece, pieces, IsPath, one_part, parts, WholeWellSpelled, HalvesWellSpelled}
use Rattle.sdf_read_back.proofs.Words.{both}
use Rattle.sdf_reader.proofs.Clashes.{never_more, never_empty, same_first, same_others}

-- ---- the text of symbols

abbrev text_of : Symbol → List ℕ
text_of (letter byte) = spelled byte
text_of (mark byte) = byte ∷ []

abbrev text : List Symbol → List ℕ
text symbols = flat_map text_of symbols

symbol_text : (marks : SpefMarks) (character : Character) → text_of (symbol_of marks character) ≡ sdf_of marks character
symbol_text marks (escaped byte) = refl
symbol_text marks (bare byte) = by (meaning marks byte)
  where
    by : (found : Option ℕ) → text_of (mark_or_letter found byte) ≡ mark_or_spelled found byte
    by None = refl
    by (Some is) = refl

symbols_text : (marks : SpefMarks) (name : List Character) → text (symbols_of marks name) ≡ spelling_of marks name
symbols_text marks [] = refl
symbols_text marks (first ∷ name) = ap₂ (λ a b. a ++ b) (symbol_text marks first) (symbols_text marks name)

-- ---- what is such a path is well spelled

digit_is_plain : (byte : ℕ) → is_ascii_digit byte ≡ true → is_plain byte ≡ true
digit_is_plain byte is = grind (arith, nat_tests)

spelled_plain : (byte : ℕ) → is_plain byte ≡ true → spelled byte ≡ byte ∷ []
spelled_plain byte is = ap (λ t. cond t (byte ∷ []) (backslash ∷ byte ∷ [])) is

digits_text : (digits : List ℕ) → list_all is_ascii_digit digits ≡ true → text (map letter digits) ≡ digits
digits_text [] all = refl
digits_text (digit ∷ digits) all =
    let own = both (is_ascii_digit digit) (list_all is_ascii_digit digits) all in
    ap₂ (λ a b. a ++ b) (spelled_plain digit (digit_is_plain digit own.0)) (digits_text digits own.1)

text_append : (one other : List Symbol) → text (one ++ other) ≡ text one ++ text other
text_append one other = flat_map-append text_of one other

piece_spelled : (symbols : List Symbol) → IsPieceOf symbols → IsPiece (text symbols)
piece_spelled symbols (alone byte) = subst IsPiece (sym (append-nil (spelled byte))) (sdf.alone (spelled_is_letter byte))
piece_spelled symbols (with_bit byte first digits all) =
    let behind : text (map letter (first ∷ digits) ++ mark right_bracket ∷ []) ≡ (first ∷ digits) ++ right_bracket ∷ [] =
    text_append (map letter (first ∷ digits)) (mark right_bracket ∷ []) ∙ ap (λ l. l ++ right_bracket ∷ []) (digits_text (first ∷ digits) all) in
    subst (λ (l : List ℕ). IsPiece l) (append_assoc (spelled byte) (left_bracket ∷ first ∷ digits) (right_bracket ∷ []) ∙ ap (λ l. spelled byte ++ left_bracket ∷ l) (sym behind)) (sdf.with_bit first digits (spelled_is_letter byte) all)

part_spelled : (symbols : List Symbol) → IsPartOf symbols → IsPart (text symbols)
part_spelled symbols (piece {last} is) = sdf.piece (piece_spelled last is)
part_spelled symbols (pieces {first} {rest} is more) = subst IsPart (sym (text_append first rest)) (sdf.pieces (piece_spelled first is) (part_spelled rest more))

path_spelled : (symbols : List Symbol) → IsPath symbols → IsWellSpelled (text symbols)
path_spelled symbols (one_part {part} is) = sdf.one_part (part_spelled part is)
path_spelled symbols (parts {part} {rest} is more) = subst IsWellSpelled (sym (text_append part (mark slash ∷ rest))) (sdf.parts (part_spelled part is) (path_spelled rest more))

-- ---- and nothing else is

-- each mark is one of paths and bits
abbrev IsMark : ℕ → Type 0
IsMark byte = (is_plain byte ≡ false) × ((byte ≡ backslash) → ⊥)

abbrev AreMarks : List Symbol → Type 0
AreMarks [] = ⊤
AreMarks (letter byte ∷ symbols) = AreMarks symbols
AreMarks (mark byte ∷ symbols) = IsMark byte × AreMarks symbols

-- the symbols begin with a letter that is spelled so, and the others are the rest
record TakesLetter (symbols : List Symbol) (front rest : List ℕ) : Type 0 where
  byte : ℕ
  others : List Symbol
  splits : symbols ≡ letter byte ∷ others
  spells : spelled byte ≡ front
  behind : text others ≡ rest
  marks : AreMarks others

head_of : (x y : ℕ) (xs ys : List ℕ) → x ∷ xs ≡ y ∷ ys → x ≡ y
head_of x y xs ys e = same_first e

tail_of : (x y : ℕ) (xs ys : List ℕ) → x ∷ xs ≡ y ∷ ys → xs ≡ ys
tail_of x y xs ys e = same_others e

apart : (byte : ℕ) → is_plain byte ≡ true → is_plain byte ≡ false → ⊥
apart byte is is_not = true≢false (sym is ∙ is_not)

slash_is_not_plain : (byte : ℕ) → is_plain byte ≡ true → byte ≡ backslash → ⊥
slash_is_not_plain byte is e = apart byte is (ap is_plain e)

take_letter : (symbols : List Symbol) (front rest : List ℕ) → AreMarks symbols → IsLetter front → text symbols ≡ front ++ rest → TakesLetter symbols front rest
take_letter [] front rest are (plain {byte} is) e = never_more e
take_letter [] front rest are (taken {byte} is_not) e = never_more e
take_letter (mark known ∷ others) front rest are (plain {byte} is) e = absurd (apart byte is (sym (ap is_plain (head_of known byte (text others) rest e)) ∙ are.0.0))
take_letter (mark known ∷ others) front rest are (taken {byte} is_not) e = absurd (are.0.1 (head_of known backslash (text others) (byte ∷ rest) e))
take_letter (letter known ∷ others) front rest are (plain {byte} is) e = by (is_plain known) refl e
  where
    by : (own : Bool) → is_plain known ≡ own → cond own (known ∷ []) (backslash ∷ known ∷ []) ++ text others ≡ byte ∷ rest → TakesLetter (letter known ∷ others) (byte ∷ []) rest
    by true own f = record {
      byte = known;
      others = others;
      splits = refl;
      spells = spelled_plain known own ∙ ap (λ b. b ∷ []) (head_of known byte (text others) rest f);
      behind = tail_of known byte (text others) rest f;
      marks = are;
    }
    by false own f = absurd (slash_is_not_plain byte is (sym (head_of backslash byte (known ∷ text others) rest f)))
take_letter (letter known ∷ others) front rest are (taken {byte} is_not) e = by (is_plain known) refl e
  where
    by : (own : Bool) → is_plain known ≡ own → cond own (known ∷ []) (backslash ∷ known ∷ []) ++ text others ≡ backslash ∷ byte ∷ rest → TakesLetter (letter known ∷ others) (backslash ∷ byte ∷ []) rest
    by true own f = absurd (slash_is_not_plain known own (head_of known backslash (text others) (byte ∷ rest) f))
    by false own f =
        let behind = tail_of backslash backslash (known ∷ text others) (byte ∷ rest) f in
        record {
          byte = known;
          others = others;
          splits = refl;
          spells = ap (λ t. cond t (known ∷ []) (backslash ∷ known ∷ [])) own ∙ ap (λ b. backslash ∷ b ∷ []) (head_of known byte (text others) rest behind);
          behind = tail_of known byte (text others) rest behind;
          marks = are;
        }

-- the same of a mark
record TakesMark (symbols : List Symbol) (byte : ℕ) (rest : List ℕ) : Type 0 where
  others : List Symbol
  splits : symbols ≡ mark byte ∷ others
  behind : text others ≡ rest
  marks : AreMarks others

take_mark : (symbols : List Symbol) (byte : ℕ) (rest : List ℕ) → AreMarks symbols → IsMark byte → text symbols ≡ byte ∷ rest → TakesMark symbols byte rest
take_mark [] byte rest are is e = never_more e
take_mark (mark known ∷ others) byte rest are is e = record {
  others = others;
  splits = ap (λ b. mark b ∷ others) (head_of known byte (text others) rest e);
  behind = tail_of known byte (text others) rest e;
  marks = are.1;
}
take_mark (letter known ∷ others) byte rest are is e = by (is_plain known) refl e
  where
    by : (own : Bool) → is_plain known ≡ own → cond own (known ∷ []) (backslash ∷ known ∷ []) ++ text others ≡ byte ∷ rest → TakesMark (letter known ∷ others) byte rest
    by true own f = absurd (apart byte (sym (ap is_plain (head_of known byte (text others) rest f)) ∙ own) is.0)
    by false own f = absurd (is.1 (sym (head_of backslash byte (known ∷ text others) rest f)))

-- a byte that is spelled as it is
spelled_alone : (byte known : ℕ) → spelled byte ≡ known ∷ [] → byte ≡ known
spelled_alone byte known e = by (is_plain byte) e
  where
    by : (is : Bool) → cond is (byte ∷ []) (backslash ∷ byte ∷ []) ≡ known ∷ [] → byte ≡ known
    by true f = head_of byte known [] [] f
    by false f = never_empty (same_others f)

-- symbols at the front are of this kind, and the others are the rest
record Takes (Kind : List Symbol → Type 0) (symbols : List Symbol) (rest : List ℕ) : Type 0 where
  front : List Symbol
  others : List Symbol
  splits : symbols ≡ front ++ others
  is : Kind front
  behind : text others ≡ rest
  marks : AreMarks others

take_digits : (symbols : List Symbol) (digits rest : List ℕ) → AreMarks symbols → list_all is_ascii_digit digits ≡ true → text symbols ≡ digits ++ rest → Takes (λ front. front ≡ map letter digits) symbols rest
take_digits symbols [] rest are all e = record { front = []; others = symbols; splits = refl; is = refl; behind = e; marks = are }
take_digits symbols (digit ∷ digits) rest are all e =
    let own = both (is_ascii_digit digit) (list_all is_ascii_digit digits) all in
    let first = take_letter symbols (digit ∷ []) (digits ++ rest) are (plain (digit_is_plain digit own.0)) e in
    let later = take_digits first.others digits rest first.marks own.1 first.behind in
    record {
      front = letter first.byte ∷ later.front;
      others = later.others;
      splits = first.splits ∙ ap (λ l. letter first.byte ∷ l) later.splits;
      is = ap₂ (λ b l. letter b ∷ l) (spelled_alone first.byte digit first.spells) later.is;
      behind = later.behind;
      marks = later.marks;
    }

left_is_mark : IsMark left_bracket
left_is_mark = (refl, λ e. absurd (omega (arith, e)))

right_is_mark : IsMark right_bracket
right_is_mark = (refl, λ e. absurd (omega (arith, e)))

slash_is_mark : IsMark slash
slash_is_mark = (refl, λ e. absurd (omega (arith, e)))

piece_splits : (byte : ℕ) (symbols opened numbered number closed digits others : List Symbol) → symbols ≡ letter byte ∷ opened → opened ≡ mark left_bracket ∷ numbered → numbered ≡ number ++ closed → number ≡ digits → closed ≡ mark right_bracket ∷ others
    → symbols ≡ (letter byte ∷ mark left_bracket ∷ (digits ++ mark right_bracket ∷ [])) ++ others
piece_splits byte symbols opened numbered number closed digits others a b c d e =
    a ∙ ap (λ l. letter byte ∷ l) b
    ∙ ap (λ l. letter byte ∷ mark left_bracket ∷ l) (c ∙ ap₂ (λ x y. x ++ y) d e ∙ sym (append_assoc digits (mark right_bracket ∷ []) others))

take_piece : (symbols : List Symbol) (front rest : List ℕ) → AreMarks symbols → IsPiece front → text symbols ≡ front ++ rest → Takes IsPieceOf symbols rest
take_piece symbols front rest are (sdf.alone {letter = own} is) e =
    let first = take_letter symbols own rest are is e in
    record { front = letter first.byte ∷ []; others = first.others; splits = first.splits; is = alone first.byte; behind = first.behind; marks = first.marks }
take_piece symbols front rest are (sdf.with_bit {letter = own} one digits is all) e =
    let whole : text symbols ≡ own ++ (left_bracket ∷ ((one ∷ digits) ++ right_bracket ∷ rest)) =
    e ∙ append_assoc (own ++ left_bracket ∷ one ∷ digits) (right_bracket ∷ []) rest ∙ append_assoc own (left_bracket ∷ one ∷ digits) (right_bracket ∷ rest) in
    let first = take_letter symbols own (left_bracket ∷ ((one ∷ digits) ++ right_bracket ∷ rest)) are is whole in
    let opens = take_mark first.others left_bracket ((one ∷ digits) ++ right_bracket ∷ rest) first.marks left_is_mark first.behind in
    let number = take_digits opens.others (one ∷ digits) (right_bracket ∷ rest) opens.marks all opens.behind in
    let closes = take_mark number.others right_bracket rest number.marks right_is_mark number.behind in
    record {
      front = letter first.byte ∷ mark left_bracket ∷ (map letter (one ∷ digits) ++ mark right_bracket ∷ []);
      others = closes.others;
      splits = piece_splits first.byte symbols first.others opens.others number.front number.others (map letter (one ∷ digits)) closes.others first.splits opens.splits number.splits number.is closes.splits;
      is = with_bit first.byte one digits all;
      behind = closes.behind;
      marks = closes.marks;
    }

take_part : (symbols : List Symbol) (front rest : List ℕ) → AreMarks symbols → IsPart front → text symbols ≡ front ++ rest → Takes IsPartOf symbols rest
take_part symbols front rest are (sdf.piece {last} is) e =
    let first = take_piece symbols last rest are is e in
    record { front = first.front; others = first.others; splits = first.splits; is = piece first.is; behind = first.behind; marks = first.marks }
take_part symbols front rest are (sdf.pieces {first = one} {rest = more} is others) e =
    let first = take_piece symbols one (more ++ rest) are is (e ∙ append_assoc one more rest) in
    let later = take_part first.others more rest first.marks others first.behind in
    record {
      front = first.front ++ later.front;
      others = later.others;
      splits = first.splits ∙ ap (λ l. first.front ++ l) later.splits ∙ sym (append_assoc first.front later.front later.others);
      is = pieces first.is later.is;
      behind = later.behind;
      marks = later.marks;
    }

-- symbols have a text
no_symbol : (symbols : List Symbol) → text symbols ≡ [] → symbols ≡ []
no_symbol [] e = refl
no_symbol (mark byte ∷ symbols) e = never_empty e
no_symbol (letter byte ∷ symbols) e = absurd (by (is_plain byte) e)
  where
    by : (is : Bool) → cond is (byte ∷ []) (backslash ∷ byte ∷ []) ++ text symbols ≡ [] → ⊥
    by true f = never_empty f
    by false f = never_empty f

path_taken : (symbols : List Symbol) (name : List ℕ) → AreMarks symbols → IsWellSpelled name → text symbols ≡ name → IsPath symbols
path_taken symbols name are (sdf.one_part {part = only} is) e =
    let first = take_part symbols only [] are is (e ∙ sym (append-nil only)) in
    let all : symbols ≡ first.front = first.splits ∙ ap (λ l. first.front ++ l) (no_symbol first.others first.behind) ∙ append-nil first.front in
    subst IsPath (sym all) (one_part first.is)
path_taken symbols name are (sdf.parts {part = one} {rest = more} is others) e =
    let first = take_part symbols one (slash ∷ more) are is e in
    let divider = take_mark first.others slash more first.marks slash_is_mark first.behind in
    subst IsPath (sym (first.splits ∙ ap (λ l. first.front ++ l) divider.splits)) (parts first.is (path_taken divider.others more divider.marks others divider.behind))

-- ---- nodes

meant_is_mark : (marks : SpefMarks) (byte : ℕ) (others : List Symbol) → AreMarks others → AreMarks (mark_or_letter (meaning marks byte) byte ∷ others)
meant_is_mark marks byte others are = by (byte == marks.divider) (byte == marks.left) (byte == marks.right)
  where
    by : (divides opens closes : Bool) → AreMarks (mark_or_letter (cond divides (Some slash) (cond opens (Some left_bracket) (cond closes (Some right_bracket) None))) byte ∷ others)
    by true opens closes = (slash_is_mark, are)
    by false true closes = (left_is_mark, are)
    by false false true = (right_is_mark, are)
    by false false false = are

symbols_are : (marks : SpefMarks) (name : List Character) → AreMarks (symbols_of marks name)
symbols_are marks [] = tt
symbols_are marks (escaped byte ∷ name) = symbols_are marks name
symbols_are marks (bare byte ∷ name) = meant_is_mark marks byte (symbols_of marks name) (symbols_are marks name)

both_are : (one other : List Symbol) → AreMarks one → AreMarks other → AreMarks (one ++ other)
both_are [] other p q = q
both_are (letter byte ∷ one) other p q = both_are one other p q
both_are (mark byte ∷ one) other p q = (p.0, both_are one other p.1 q)

pub whole_well_spelled : WholeWellSpelled
whole_well_spelled marks name = (
  λ is. subst IsWellSpelled (symbols_text marks name) (path_spelled (symbols_of marks name) is),
  λ is. path_taken (symbols_of marks name) (spelling_of marks name) (symbols_are marks name) is (symbols_text marks name),
)

halves_text : (marks : SpefMarks) (front back : List Character) → text (symbols_of marks front ++ mark slash ∷ symbols_of marks back) ≡ spelling_of marks front ++ slash ∷ spelling_of marks back
halves_text marks front back =
    text_append (symbols_of marks front) (mark slash ∷ symbols_of marks back) ∙ ap₂ (λ a b. a ++ slash ∷ b) (symbols_text marks front) (symbols_text marks back)

pub halves_well_spelled : HalvesWellSpelled
halves_well_spelled marks front back = (
  λ is. subst IsWellSpelled (halves_text marks front back) (path_spelled (symbols_of marks front ++ mark slash ∷ symbols_of marks back) is),
  λ is.
      path_taken (symbols_of marks front ++ mark slash ∷ symbols_of marks back) (spelling_of marks front ++ slash ∷ spelling_of marks back)
      (both_are (symbols_of marks front) (mark slash ∷ symbols_of marks back) (symbols_are marks front) (slash_is_mark, symbols_are marks back)) is (halves_text marks front back),
)
