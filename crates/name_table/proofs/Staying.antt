-- A word whose bytes all stand as they are is the text that it stands for, and its own spelling in SDF.
use Rattle.std.proofs.Common.{◌≡◌, ℕ, Bool, true, false, not, ◌&&◌, List, [], ◌∷◌, ◌++◌, if◌then◌else◌, refl, sym, ap, ◌∙◌, true≢false}
use Rattle.std.specs.Prelude.{◌==◌, Option, Some, None, unwrap_or}
use Rattle.std.specs.List.{list_all}
use Rattle.std.proofs.lemmas.Bool.Decides.{Decides-eqb}
use Rattle.name_table.specs.Characters.{Character, bare, characters, after_backslash}
use Rattle.edge_io.specs.Bytes.{slash, backslash}
use Rattle.name_table.specs.SdfNames.{is_plain}
use Rattle.name_table.specs.SpefNames.{meaning, mark_or_spelled, text_of, spelling_of, whole_node, cut_node}
use Rattle.name_table.specs.Staying.{stays, stays_as, are_usual}
use Rattle.name_table.specs.declared.spef_names.SpefMarks.{SpefMarks}

both_true : (one other : Bool) → (one && other) ≡ true → (one ≡ true) × (other ≡ true)
both_true true other is = (refl, is)
both_true false other is = absurd (true≢false (sym is))

not_true : (one : Bool) → not one ≡ true → one ≡ false
not_true false is = refl
not_true true is = absurd (true≢false (sym is))

-- what a byte stands for, and its spelling
meant_as : (mark : Option ℕ) (byte : ℕ) → stays_as mark byte ≡ true → unwrap_or mark byte ≡ byte
meant_as None byte is = refl
meant_as (Some mark) byte is = (Decides-eqb mark byte).0 is

spelled_as : (mark : Option ℕ) (byte : ℕ) → stays_as mark byte ≡ true → mark_or_spelled mark byte ≡ byte ∷ []
spelled_as None byte is = ap (λ plain. if plain then byte ∷ [] else backslash ∷ byte ∷ []) is
spelled_as (Some mark) byte is = ap (λ mark. mark ∷ []) ((Decides-eqb mark byte).0 is)

-- a word that begins with no backslash
read_first : (byte : ℕ) (rest : List ℕ) → (byte == backslash) ≡ false → characters (byte ∷ rest) ≡ bare byte ∷ characters rest
read_first byte rest is = ap (λ slashed. elim slashed as (λ _. List Character) [ true ↦ after_backslash rest | false ↦ bare byte ∷ characters rest ]) is

no_slash : (marks : SpefMarks) (byte : ℕ) → stays marks byte ≡ true → (byte == backslash) ≡ false
no_slash marks byte is = not_true (byte == backslash) (both_true (not (byte == backslash)) (stays_as (meaning marks byte) byte) is).0

as_it_is : (marks : SpefMarks) (byte : ℕ) → stays marks byte ≡ true → stays_as (meaning marks byte) byte ≡ true
as_it_is marks byte is = (both_true (not (byte == backslash)) (stays_as (meaning marks byte) byte) is).1

pub text_stays : (marks : SpefMarks) (word : List ℕ) → list_all (stays marks) word ≡ true → text_of marks (characters word) ≡ word
text_stays marks [] all = refl
text_stays marks (byte ∷ rest) all =
    let two = both_true (stays marks byte) (list_all (stays marks) rest) all in
    ap (text_of marks) (read_first byte rest (no_slash marks byte two.0))
    ∙ (λ i. meant_as (meaning marks byte) byte (as_it_is marks byte two.0) i ∷ text_stays marks rest two.1 i)

pub spelling_stays : (marks : SpefMarks) (word : List ℕ) → list_all (stays marks) word ≡ true → spelling_of marks (characters word) ≡ word
spelling_stays marks [] all = refl
spelling_stays marks (byte ∷ rest) all =
    let two = both_true (stays marks byte) (list_all (stays marks) rest) all in
    ap (spelling_of marks) (read_first byte rest (no_slash marks byte two.0))
    ∙ (λ i. spelled_as (meaning marks byte) byte (as_it_is marks byte two.0) i ++ spelling_stays marks rest two.1 i)

-- what is answered of a word that stands as it is, and of one that is cut
pub whole_stays : (marks : SpefMarks) (word : List ℕ) → list_all (stays marks) word ≡ true
    → record { head = word; tail = None; sdf = word } ≡ whole_node marks (characters word)
whole_stays marks word all = sym (λ i. record { head = text_stays marks word all i; tail = None; sdf = spelling_stays marks word all i })

pub halves_stay : (marks : SpefMarks) (front back : List ℕ) → list_all (stays marks) front ≡ true → list_all (stays marks) back ≡ true
    → record { head = front; tail = Some back; sdf = front ++ slash ∷ back } ≡ cut_node marks (characters front) (characters back)
halves_stay marks front back one two = sym (λ i. record {
  head = text_stays marks front one i;
  tail = Some (text_stays marks back two i);
  sdf = spelling_stays marks front one i ++ slash ∷ spelling_stays marks back two i;
})

-- among usual marks a plain byte stands as it is
other_than_plain : (mark byte : ℕ) → not (is_plain mark) ≡ true → is_plain byte ≡ true → (byte == mark) ≡ false
other_than_plain mark byte not_plain plain = by (byte == mark) refl
  where
    by : (same : Bool) → (byte == mark) ≡ same → (byte == mark) ≡ false
    by false is = is
    by true is = absurd (true≢false (sym (ap is_plain (sym ((Decides-eqb byte mark).0 is)) ∙ plain) ∙ not_true (is_plain mark) not_plain))

pub plain_stays : (marks : SpefMarks) (byte : ℕ) → are_usual marks ≡ true → is_plain byte ≡ true → stays marks byte ≡ true
plain_stays marks byte usual plain =
    let first = both_true (not (is_plain marks.divider)) (not (is_plain marks.left) && not (is_plain marks.right)) usual in
    let rest = both_true (not (is_plain marks.left)) (not (is_plain marks.right)) first.1 in
    let no_divider = other_than_plain marks.divider byte first.0 plain in
    let no_left = other_than_plain marks.left byte rest.0 plain in
    let no_right = other_than_plain marks.right byte rest.1 plain in
    let no_backslash = other_than_plain backslash byte refl plain in
    let no_mark : meaning marks byte ≡ None = cc in
    cc
