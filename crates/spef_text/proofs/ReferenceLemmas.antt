-- What a reference names, from the steps of finding it.
use Rattle.std.proofs.Common.{◌≡◌, ℕ, ◌<◌, Bool, true, false, List, [], length, get_or, Option, Some, None, Result, Ok, IfOk, refl, sym, ap, ◌∙◌, arith, subst, ⊎_elim, true≢false}
use Rattle.std.proofs.lemmas.Bool.{cases_lt}
use Rattle.std.proofs.lemmas.List.{get_or-map, length-map}
use Rattle.std.proofs.lemmas.Option.{slice_get-get_or, get_or_from_slice_get}
use Rattle.std.specs.List.{Contains}
use Rattle.std.specs.Option.{IfSome}
use Rattle.name_table.specs.Names.{AreDistinct}
use Rattle.name_table.specs.SpefNames.{node_name}
use Rattle.name_table.specs.WrittenNames.{IsWritten}
use Rattle.name_table.specs.declared.spef_names.NodeName.{NodeName}
use Rattle.name_table.specs.declared.written_names.WrittenName.{WrittenName}
use Rattle.spef_text.specs.Classes.{index_digits}
use Rattle.spef_text.specs.SpefFiles.{SpefText}
use Rattle.spef_text.specs.Heads.{text_of, digits_of, indices_of}
use Rattle.spef_text.specs.References.{marks_of, is_starred, index_end, before, digits_in, mapped_node, IsMapped, IsNodeOf, plain, mapped, NamesAsWritten, IsUnknown}
use Rattle.spef_text.specs.declared.entries.MapEntry.{MapEntry}

pub in_ok : {A E : Type 0} (P : A → Type 0) (r : Result A E) (x : A) → r ≡ Ok x → IfOk r P → P x
in_ok {A = A} {E = E} P r x e h = subst (λ (y : Result A E). IfOk y P) e h

-- the digits of the index in front of a word
digits_are : (delimiter : ℕ) (word index : List ℕ) (end : Option ℕ) → end ≡ index_end delimiter word → index ≡ before end word → index_digits index ≡ digits_in delimiter word
digits_are delimiter word index end e i = ap index_digits (i ∙ ap (λ x. before x word) e)

pub is_unknown : (file : SpefText) (word text index : List ℕ) (end : Option ℕ) → word ≡ text → is_starred word ≡ true → end ≡ index_end file.reading.head.marks.delimiter word → index ≡ before end word
    → ((name : List ℕ) → IsMapped file (index_digits index) name → ⊥) → IsUnknown file text
is_unknown file word text index end w starred e i none =
    subst (λ (x : List ℕ). IsUnknown file x) w (record {
      starred = starred;
      unmapped = λ name is. none name (subst (λ (x : List ℕ). IsMapped file x name) (sym (digits_are file.reading.head.marks.delimiter word index end e i)) is);
    })

pub plain_named : (file : SpefText) (cut : Bool) (word text : List ℕ) (node : NodeName) → word ≡ text → is_starred word ≡ false → node ≡ node_name (marks_of file) cut word → IsNodeOf file cut text node
plain_named file cut word text node w plain_word is = subst (λ (x : List ℕ). IsNodeOf file cut x node) w (plain plain_word is)

pub mapped_named : (file : SpefText) (cut : Bool) (word text index name : List ℕ) (end : Option ℕ) (node : NodeName) → word ≡ text → is_starred word ≡ true
    → end ≡ index_end file.reading.head.marks.delimiter word → index ≡ before end word → IsMapped file (index_digits index) name → node ≡ mapped_node (marks_of file) cut name word end
    → IsNodeOf file cut text node
mapped_named file cut word text index name end node w starred e i has is =
    subst (λ (x : List ℕ). IsNodeOf file cut x node) w
    (mapped name starred
    (subst (λ (x : List ℕ). IsMapped file x name) (digits_are file.reading.head.marks.delimiter word index end e i) has)
    (is ∙ ap (λ x. mapped_node (marks_of file) cut name word x) e))

-- entries with the same digits stand at one place
one_place : (file : SpefText) (entries : List MapEntry) (one other : MapEntry) (i j : ℕ) → AreDistinct (indices_of file entries) → i < length entries → j < length entries
    → get_or entries i one ≡ one → get_or entries j other ≡ other → digits_of file one ≡ digits_of file other → i ≡ j
one_place file entries one other i j distinct wi wj at_i at_j same =
    ⊎_elim (λ less. absurd (distinct i j [] less (rw (length-map entries (digits_of file)) wj) (read i one wi at_i ∙ same ∙ sym (read j other wj at_j))))
    (λ more. ⊎_elim (λ less. absurd (distinct j i [] less (rw (length-map entries (digits_of file)) wi) (read j other wj at_j ∙ sym same ∙ sym (read i one wi at_i))))
    (λ most. omega (arith, more, most))
    (cases_lt j i))
    (cases_lt i j)
  where
    read : (k : ℕ) (entry : MapEntry) → k < length entries → get_or entries k entry ≡ entry → get_or (indices_of file entries) k [] ≡ digits_of file entry
    read k entry within at = get_or-map (digits_of file) entries k entry [] within ∙ ap (digits_of file) at

one_entry : (file : SpefText) (entries : List MapEntry) (one other : MapEntry) → AreDistinct (indices_of file entries) → Contains entries one → Contains entries other → digits_of file one ≡ digits_of file other → one ≡ other
one_entry file entries one other distinct (i, wi, at_i) (j, wj, at_j) same =
    let place : i ≡ j = one_place file entries one other i j distinct wi wj at_i at_j same in
    sym at_i ∙ ap (λ k. get_or entries k one) place ∙ within entries j one other wj ∙ at_j
  where
    within : (xs : List MapEntry) (k : ℕ) (d e : MapEntry) → k < length xs → get_or xs k d ≡ get_or xs k e
    within xs k d e h = sym (get_or_from_slice_get xs k (get_or xs k d) e (slice_get-get_or xs k d h))

-- an index stands for one name
pub one_name : (file : SpefText) (digits name other : List ℕ) → AreDistinct (indices_of file file.reading.head.map) → IsMapped file digits name → IsMapped file digits other → name ≡ other
one_name file digits name other distinct a b =
    sym a.named ∙ ap (λ (e : MapEntry). text_of file e.name) (one_entry file file.reading.head.map a.entry b.entry distinct a.stands b.stands (a.index ∙ sym b.index)) ∙ b.named

-- a word names one node
pub one_node : (file : SpefText) (cut : Bool) (word : List ℕ) (node other : NodeName) → AreDistinct (indices_of file file.reading.head.map) → IsNodeOf file cut word node → IsNodeOf file cut word other → node ≡ other
one_node file cut word node other distinct (plain p is) (plain q other_is) = is ∙ sym other_is
one_node file cut word node other distinct (plain p is) (mapped name q has other_is) = absurd (true≢false (sym q ∙ p))
one_node file cut word node other distinct (mapped name p has is) (plain q other_is) = absurd (true≢false (sym p ∙ q))
one_node file cut word node other distinct (mapped name p has is) (mapped second q held other_is) =
    is ∙ ap (λ x. mapped_node (marks_of file) cut x word (index_end file.reading.head.marks.delimiter word)) (one_name file (digits_in file.reading.head.marks.delimiter word) name second distinct has held) ∙ sym other_is

pub names_nothing : (file : SpefText) (cut : Bool) (word : List ℕ) (node : NodeName) → IsUnknown file word → IsNodeOf file cut word node → ⊥
names_nothing file cut word node unknown (plain p is) = true≢false (sym unknown.starred ∙ p)
names_nothing file cut word node unknown (mapped name p has is) = unknown.unmapped name has

-- a word whose index stands for a name, where the parts of the node stand as they are written
pub written_named : (file : SpefText) (cut : Bool) (word text index name : List ℕ) (end : Option ℕ) (result : Option WrittenName) → word ≡ text → is_starred word ≡ true
    → end ≡ index_end file.reading.head.marks.delimiter word → index ≡ before end word → IsMapped file (index_digits index) name
    → IfSome result (IsWritten (mapped_node (marks_of file) cut name word end)) → IfSome result (NamesAsWritten file cut text)
written_named file cut word text index name end None w starred e i has is = is
written_named file cut word text index name end (Some written) w starred e i has is = record {
  node = mapped_node (marks_of file) cut name word end;
  names = mapped_named file cut word text index name end (mapped_node (marks_of file) cut name word end) w starred e i has refl;
  written = is;
}
