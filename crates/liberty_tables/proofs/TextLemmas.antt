-- A text and then the others, as far as they are read.
use Rattle.std.proofs.Common.{◌≡◌, ℕ, zero, suc, ◌+◌, List, [], ◌∷◌, ◌++◌, take, Some, append_assoc, refl, sym, ap, subst, ◌∙◌, arith}
use Rattle.std.specs.Prelude.{slice_get}
use Rattle.std.proofs.lemmas.List.{append-nil}
use Rattle.delay_units.specs.declared.numbers.Unit.{Unit}
use Rattle.token_texts.specs.Pieces.{pieces_between}
use Rattle.liberty_tables.specs.NumberLists.{is_parting, pieces_of}
use Rattle.liberty_tables.specs.Kept.{AreKept, KeepsMore, IsListFault}
use Rattle.liberty_tables.specs.declared.faults.CellFault.{CellFault}
use Rattle.liberty_tables.specs.declared.number_lists.Readings.{Readings}
use Rattle.liberty_tables.proofs.ReadingLemmas.{fault_among}

-- some pieces of all have been read, and these are left
pub record IsReadTo (unit : Unit) (all left : List (List ℕ)) (before after : Readings) : Type 0 where
  pub done : List (List ℕ)
  pub split : all ≡ done ++ left
  pub kept : KeepsMore unit done before after

pub none_read : (unit : Unit) (all : List (List ℕ)) (readings : Readings) → IsReadTo unit all all readings readings
none_read unit all readings = record {
  done = [];
  split = refl;
  kept = λ pieces kept. subst (λ ps. AreKept unit ps readings.within readings.values.items) (sym (append-nil pieces)) kept;
}

pub one_more_read : (unit : Unit) (all left : List (List ℕ)) (one : List ℕ) (others : List (List ℕ)) (before after later : Readings) → IsReadTo unit all left before after
    → left ≡ one ∷ others → KeepsMore unit (one ∷ []) after later → IsReadTo unit all others before later
one_more_read unit all left one others before after later so_far cut more = record {
  done = so_far.done ++ one ∷ [];
  split = so_far.split ∙ ap (λ l. so_far.done ++ l) cut ∙ sym (append_assoc so_far.done (one ∷ []) others);
  kept = λ pieces kept.
      subst (λ ps. AreKept unit ps later.within later.values.items) (append_assoc pieces so_far.done (one ∷ [])) (more (pieces ++ so_far.done) (so_far.kept pieces kept));
}

-- all have been read
pub all_read : (unit : Unit) (all left : List (List ℕ)) (before after : Readings) → left ≡ [] → IsReadTo unit all left before after → KeepsMore unit all before after
all_read unit all left before after none so_far pieces kept =
    subst (λ ps. AreKept unit (pieces ++ ps) after.within after.values.items) (sym (so_far.split ∙ ap (λ l. so_far.done ++ l) none ∙ append-nil so_far.done)) (so_far.kept pieces kept)

-- the first of the pieces that are left is no number
pub fault_of_all : (unit : Unit) (all left : List (List ℕ)) (one : List ℕ) (others : List (List ℕ)) (before after : Readings) (fault : CellFault)
    → IsReadTo unit all left before after → left ≡ one ∷ others → IsListFault (one ∷ []) fault → IsListFault all fault
fault_of_all unit all left one others before after fault so_far cut bad =
    subst (λ ps. IsListFault ps fault) (sym (so_far.split ∙ ap (λ l. so_far.done ++ l) cut)) (fault_among so_far.done (one ∷ []) others fault bad)

-- ---- a text of all texts

abbrev pieces_in : List ℕ → List (List ℕ)
pieces_in text = pieces_between is_parting text

texts_suc : (texts : List (List ℕ)) (place : ℕ) (text : List ℕ) → slice_get texts place ≡ Some text → pieces_of (take (suc place) texts) ≡ pieces_of (take place texts) ++ pieces_in text
texts_suc [] place text at = absurd (cc)
texts_suc (first ∷ texts) zero text at = let same : first ≡ text = cc in append-nil (pieces_in first) ∙ ap pieces_in same
texts_suc (first ∷ texts) (suc place) text at = ap (λ ps. pieces_in first ++ ps) (texts_suc texts place text at) ∙ sym (append_assoc (pieces_in first) (pieces_of (take place texts)) (pieces_in text))

texts_at : (texts : List (List ℕ)) (place : ℕ) (text : List ℕ) → slice_get texts place ≡ Some text → (behind : List (List ℕ)) × (pieces_of texts ≡ pieces_of (take place texts) ++ (pieces_in text ++ behind))
texts_at [] place text at = absurd (cc)
texts_at (first ∷ texts) zero text at = let same : first ≡ text = cc in (pieces_of texts, ap (λ t. pieces_in t ++ pieces_of texts) same)
texts_at (first ∷ texts) (suc place) text at =
    let cut = texts_at texts place text at in
    (cut.0, ap (λ ps. pieces_in first ++ ps) cut.1 ∙ sym (append_assoc (pieces_in first) (pieces_of (take place texts)) (pieces_in text ++ cut.0)))

-- the text at a place goes last
pub texts_more : (unit : Unit) (texts : List (List ℕ)) (place : ℕ) (text bytes : List ℕ) (before after : Readings) → slice_get texts place ≡ Some text → bytes ≡ text
    → AreKept unit (pieces_of (take place texts)) before.within before.values.items → KeepsMore unit (pieces_between is_parting bytes) before after
    → AreKept unit (pieces_of (take (place + 1) texts)) after.within after.values.items
texts_more unit texts place text bytes before after at same kept more =
    let next : suc place ≡ place + 1 = omega arith in
    subst (λ (n : ℕ). AreKept unit (pieces_of (take n texts)) after.within after.values.items) next
    (subst (λ ps. AreKept unit ps after.within after.values.items) (ap (λ t. pieces_of (take place texts) ++ pieces_in t) same ∙ sym (texts_suc texts place text at)) (more (pieces_of (take place texts)) kept))

-- what the text at a place has, all texts have
pub fault_of_text : (texts : List (List ℕ)) (place : ℕ) (text bytes : List ℕ) (fault : CellFault) → slice_get texts place ≡ Some text → bytes ≡ text
    → IsListFault (pieces_between is_parting bytes) fault → IsListFault (pieces_of texts) fault
fault_of_text texts place text bytes fault at same bad =
    let cut = texts_at texts place text at in
    subst (λ ps. IsListFault ps fault) (sym cut.1) (fault_among (pieces_of (take place texts)) (pieces_in text) cut.0 fault (subst (λ t. IsListFault (pieces_in t) fault) same bad))
