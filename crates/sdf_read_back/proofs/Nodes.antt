-- The names of SPEF's nodes, spelled in SDF, are settled where they begin no comment.
use Rattle.std.proofs.Common.{◌≡◌, ℕ, Bool, true, false, cond, ◌==◌, List, [], ◌∷◌, ◌++◌, Option, Some, None, refl, ap}
use Rattle.std.specs.Prelude.{◌≢◌}
use Rattle.std.proofs.lemmas.Bool.Decides.{Decides-eqb}
use Rattle.name_table.specs.Characters.{Character, bare, escaped, characters, after_backslash}
use Rattle.edge_io.specs.Bytes.{slash, backslash}
use Rattle.name_table.specs.SdfNames.{is_plain, spelled}
use Rattle.name_table.specs.SpefNames.{Halves, meaning, mark_or_spelled, sdf_of, spelling_of, node_of, halves_at}
use Rattle.name_table.specs.declared.spef_names.SpefMarks.{SpefMarks}
use Rattle.name_table.proofs.Spelling.{stays_alone, node_stays}
use Rattle.sdf_read_back.specs.Names.{begins_comment, IsSettled, WholeSettles, HalvesSettle, NamedSettles}
use Rattle.sdf_reader.proofs.Clashes.{never_empty}

-- a word has a character, but for nothing and a backslash alone
some_character : (word : List ℕ) → word ≢ [] → word ≢ backslash ∷ [] → characters word ≢ []
some_character [] some more e = some refl
some_character (byte ∷ rest) some more e = by (byte == backslash) refl e
  where
    behind : (others : List ℕ) → byte ∷ others ≢ backslash ∷ [] → byte ≡ backslash → after_backslash others ≡ [] → ⊥
    behind [] other is f = other (ap (λ b. b ∷ []) is)
    behind (next ∷ others) other is f = never_empty f

    by : (slashed : Bool) → (byte == backslash) ≡ slashed → (elim slashed as (λ _. List Character) [ true ↦ after_backslash rest | false ↦ bare byte ∷ characters rest ]) ≡ [] → ⊥
    by true is f = behind rest more ((Decides-eqb byte backslash).0 is) f
    by false is f = never_empty f

some_front : (one other : List ℕ) → (one ≡ [] → ⊥) → one ++ other ≡ [] → ⊥
some_front [] other some e = some refl
some_front (byte ∷ one) other some e = never_empty e

some_spelled : (byte : ℕ) → spelled byte ≡ [] → ⊥
some_spelled byte = by (is_plain byte)
  where
    by : (is : Bool) → cond is (byte ∷ []) (backslash ∷ byte ∷ []) ≡ [] → ⊥
    by true e = never_empty e
    by false e = never_empty e

some_mark : (mark : Option ℕ) (byte : ℕ) → mark_or_spelled mark byte ≡ [] → ⊥
some_mark None byte e = some_spelled byte e
some_mark (Some mark) byte e = never_empty e

some_sdf : (marks : SpefMarks) (character : Character) → sdf_of marks character ≡ [] → ⊥
some_sdf marks (escaped byte) e = some_spelled byte e
some_sdf marks (bare byte) e = some_mark (meaning marks byte) byte e

some_spelling : (marks : SpefMarks) (name : List Character) → name ≢ [] → spelling_of marks name ≡ [] → ⊥
some_spelling marks [] some e = some refl
some_spelling marks (first ∷ name) some e = some_front (sdf_of marks first) (spelling_of marks name) (some_sdf marks first) e

some_node : (marks : SpefMarks) (name : List Character) (halves : Option Halves) → name ≢ [] → (node_of marks name halves).sdf ≡ [] → ⊥
some_node marks name None some e = some_spelling marks name some e
some_node marks name (Some halves) some e = past (spelling_of marks halves.front) e
  where
    past : (front : List ℕ) → front ++ slash ∷ spelling_of marks halves.back ≡ [] → ⊥
    past [] f = never_empty f
    past (byte ∷ front) f = never_empty f

settles : (marks : SpefMarks) (name : List Character) (halves : Option Halves) → name ≢ [] → begins_comment (node_of marks name halves).sdf ≡ false → IsSettled (node_of marks name halves).sdf
settles marks name halves some none = record {
  stays = stays_alone (node_of marks name halves).sdf (node_stays marks name halves);
  some = some_node marks name halves some;
  no_comment = none;
}

pub whole_settles : WholeSettles
whole_settles marks name some none = settles marks name None some none

pub halves_settle : HalvesSettle
halves_settle marks front back none = settles marks (bare slash ∷ []) (Some (record { front = front; back = back })) (λ e. never_empty e) none

pub named_settles : NamedSettles
named_settles marks cut word some more none = settles marks (characters word) (halves_at marks.delimiter cut (characters word)) (some_character word some more) none
