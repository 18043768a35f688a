-- What no token is together: a keyword is of no other class that may stand where it does, and what names a node has not the form of a value.
use Rattle.std.proofs.Common.{◌≡◌, ℕ, zero, suc, Bool, true, false, List, [], ◌∷◌, Option, Some, None, refl, sym, ap, ◌∙◌}
use Rattle.std.specs.Prelude.{not, ◌&&◌, ◌==◌, if◌then◌else◌, position, take, drop, ◌+◌}
use Rattle.std.specs.List.{AllByRecursion}
use Rattle.std.specs.Str.{bytes_eq}
use Rattle.std.proofs.lemmas.Bool.{eqb-true}
use Rattle.std.proofs.lemmas.Slice.Eq.{bytes_eq-Decides}
use Rattle.spef_text.specs.Tokens.{is_broken}
use Rattle.spef_text.specs.Classes.{keywords, lookup, word_of, is_top, is_tight, holds_of, is_other, is_loose, is_mark, is_two_marks, is_value, is_value_parted, are_two_literals, is_id, is_index, is_name, is_indexed, is_ref, is_colon}
use Rattle.delay_units.specs.Places.{is_literal, ends_literal}
use Rattle.delay_units.proofs.PlaceLemmas.{none_stays}
use Rattle.spef_text.specs.declared.words.Word.{Word}

and_false : (a b : Bool) → b ≡ false → (a && b) ≡ false
and_false true b e = e
and_false false b e = refl

-- a keyword of the head is no other token, and a tight one is not loose
pub top_no_other : (text : List ℕ) → holds_of is_top (word_of text) ≡ true → is_other text ≡ false
unfolding is_other
top_no_other text top = and_false (not (is_broken text)) (not (holds_of is_top (word_of text))) (ap not top)

pub tight_no_loose : (text : List ℕ) → holds_of is_tight (word_of text) ≡ true → is_loose text ≡ false
unfolding is_loose
tight_no_loose text tight = and_false (not (is_broken text)) (not (holds_of is_tight (word_of text))) (ap not tight)

-- what is false of the text of each keyword is false of a text that is one
found_fails : (P : List ℕ → Bool) (text : List ℕ) (word : Word) (among : List (List ℕ × Word)) → AllByRecursion (λ keyword. P keyword.0 ≡ false) among → lookup among text ≡ Some word → P text ≡ false
found_fails P text word [] each e = absurd (cc)
found_fails P text word (keyword ∷ among) each e = by_test (found_fails P text word among each.1) (bytes_eq keyword.0 text) refl e
  where
    by_test : (lookup among text ≡ Some word → P text ≡ false) → (test : Bool) → bytes_eq keyword.0 text ≡ test → (if test then Some keyword.1 else lookup among text) ≡ Some word → P text ≡ false
    by_test later true is e = ap P (sym ((bytes_eq-Decides keyword.0 text).0 is)) ∙ each.0
    by_test later false is e = later e

pub keyword_no_id : (text : List ℕ) (word : Word) → word_of text ≡ Some word → is_id text ≡ false
unfolding word_of is_id
keyword_no_id text word e = found_fails is_id text word keywords each e
  where
    each : AllByRecursion (λ keyword. is_id keyword.0 ≡ false) keywords
    each = (refl, (refl, (refl, (refl, (refl, (refl, (refl, (refl, (refl, (refl, (refl, (refl, (refl, (refl, (refl, (refl, (refl, (refl, (refl, (refl, (refl, (refl, (refl, (refl, (refl, (refl, (refl, (refl, (refl, (refl, (refl, (refl, (refl, (refl, (refl, tt)))))))))))))))))))))))))))))))))))

pub keyword_no_index : (text : List ℕ) (word : Word) → word_of text ≡ Some word → is_index text ≡ false
unfolding word_of is_index is_id
keyword_no_index text word e = found_fails is_index text word keywords each e
  where
    each : AllByRecursion (λ keyword. is_index keyword.0 ≡ false) keywords
    each = (refl, (refl, (refl, (refl, (refl, (refl, (refl, (refl, (refl, (refl, (refl, (refl, (refl, (refl, (refl, (refl, (refl, (refl, (refl, (refl, (refl, (refl, (refl, (refl, (refl, (refl, (refl, (refl, (refl, (refl, (refl, (refl, (refl, (refl, (refl, tt)))))))))))))))))))))))))))))))))))

-- one mark is not two
pub mark_not_two : (text : List ℕ) → is_mark text ≡ true → is_two_marks text ≡ false
unfolding is_mark is_two_marks
mark_not_two [] e = refl
mark_not_two (byte ∷ []) e = refl
mark_not_two (byte ∷ next ∷ rest) e = absurd (cc)

-- what names a node has not the form of a value
star_no_literal : (rest : List ℕ) → is_literal (42 ∷ rest) ≡ false
unfolding is_literal
star_no_literal rest = ap ends_literal (none_stays rest)

empty_no_literal : is_literal [] ≡ false
unfolding is_literal
empty_no_literal = refl

star_no_parted : (rest : List ℕ) (colon : Option ℕ) → is_value_parted (42 ∷ rest) colon ≡ false
star_no_parted rest None = star_no_literal rest
star_no_parted rest (Some zero) = ap (λ b. b && are_two_literals (drop 1 (42 ∷ rest)) (position is_colon (drop 1 (42 ∷ rest)))) empty_no_literal
star_no_parted rest (Some (suc k)) = ap (λ b. b && are_two_literals (drop (suc k + 1) (42 ∷ rest)) (position is_colon (drop (suc k + 1) (42 ∷ rest)))) (star_no_literal (take k rest))

star_no_value : (rest : List ℕ) → is_value (42 ∷ rest) ≡ false
unfolding is_value
star_no_value rest = star_no_parted rest (position is_colon (42 ∷ rest))

pub ref_no_value : (mark : ℕ) (text : List ℕ) → is_ref mark text ≡ true → is_value text ≡ false
unfolding is_ref
ref_no_value mark [] e = absurd (cc)
ref_no_value mark (first ∷ rest) e = by_star (first == 42) refl e
  where
    by_name : (name value : Bool) → (name && not value) ≡ true → value ≡ false
    by_name true true e = absurd (cc)
    by_name false true e = absurd (cc)
    by_name name false e = refl

    by_star : (star : Bool) → (first == 42) ≡ star → (if star then is_indexed mark rest else (is_name (first ∷ rest) && not (is_value (first ∷ rest)))) ≡ true → is_value (first ∷ rest) ≡ false
    by_star true is e = ap (λ b. is_value (b ∷ rest)) (eqb-true first 42 is) ∙ star_no_value rest
    by_star false is e = by_name (is_name (first ∷ rest)) (is_value (first ∷ rest)) e
