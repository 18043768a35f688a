-- A text more in a table of names, and a text that is held already.
use Rattle.std.proofs.Common.{◌≡◌, ℕ, ◌+◌, ◌<◌, ◌≤◌, Bool, true, false, List, [], ◌∷◌, ◌++◌, length, take, drop, refl, sym, ap, ◌∙◌, subst, arith, true≢false, ◌||◌, if◌then◌else◌}
use Rattle.std.specs.Prelude.{slice_get, Some, Contains}
use Rattle.std.specs.List.{list_any}
use Rattle.std.specs.Str.{bytes_eq}
use Rattle.std.specs.Cmp.{decided}
use Rattle.std.specs.Borrow.{Bor}
use Rattle.std.proofs.lemmas.Map.Views.{list_any-from_Contains, Contains-from_any}
use Rattle.std.proofs.lemmas.Option.{slice_get_within}
use Rattle.std.proofs.lemmas.Slice.Eq.{bytes_eq-Decides}
use Rattle.std.proofs.Math.Seq.{take-append_seam}
use Rattle.std.proofs.lemmas.List.{take-append-le, take-append-drop, take_all}
use Rattle.indexmap.specs.IndexSet.{insert_key}
use Rattle.name_table.specs.Names.{AreDistinct}
use Rattle.name_table.proofs.Keys.{same_text}
use Rattle.verilog_netlist.proofs.TableReading.{slice_get_before, slice_get_behind}
use Rattle.netlist_link.specs.LinkEnds.{IsFirstClash}
use Rattle.netlist_link.specs.Clashes.{AreNamed, IsClash, clash_is, no_room_is, texts_in}
use Rattle.netlist_link.specs.declared.ends.LinkEnd.{LinkEnd}
use Rattle.netlist_link.proofs.Pushing.{take_push}

abbrev pub borrowed : Bor (List ℕ) → List ℕ
borrowed text = text.now

-- a text is held by these or it is not
held_or_not : (P : Type 0) (names : List (List ℕ)) (text : List ℕ) → (Contains names text → P) → (¬ Contains names text → P) → P
held_or_not P names text held absent = by (list_any (bytes_eq text) names) refl
  where
    by : (b : Bool) → list_any (bytes_eq text) names ≡ b → P
    by true e = held (Contains-from_any {eq = bytes_eq} (λ x y. (bytes_eq-Decides x y).0) text names e)
    by false e = absent (λ h. true≢false (sym (list_any-from_Contains {eq = bytes_eq} (decided bytes_eq bytes_eq-Decides) text names h) ∙ e))

module _ (names after : List (List ℕ)) (text : List ℕ) (id : ℕ) (kept : Contains names text → after ≡ names)
    (added : ¬ Contains names text → after ≡ names ++ text ∷ []) (here : slice_get after id ≡ Some text) where
  held_before : id < length names → slice_get names id ≡ Some text
  held_before below = held_or_not (slice_get names id ≡ Some text) names text
      (λ held. subst (λ (l : List (List ℕ)). slice_get l id ≡ Some text) (kept held) here)
      (λ absent. sym (slice_get_before names (text ∷ []) id below) ∙ subst (λ (l : List (List ℕ)). slice_get l id ≡ Some text) (added absent) here)

  -- a text with the number of one before is the first clash
  pub clash_there : AreDistinct names → id < length names → IsFirstClash (names ++ text ∷ []) text
  clash_there distinct below = record {
    place = length names;
    earlier = id;
    before = below;
    here = slice_get_behind names (text ∷ []) (length names) 0 (omega arith);
    same = slice_get_before names (text ∷ []) id below ∙ held_before below;
    first = subst AreDistinct (sym (take-append_seam names (text ∷ []))) distinct;
  }

  -- and a text with a number of its own is put at the end
  pub named_there : AreDistinct after → length names ≤ id → AreNamed (names ++ text ∷ []) after
  named_there distinct past = held_or_not (AreNamed (names ++ text ∷ []) after) names text
      (λ held. let below = slice_get_within names id text (subst (λ (l : List (List ℕ)). slice_get l id ≡ Some text) (kept held) here) in absurd (omega arith))
      (λ absent. record { are = added absent; distinct = subst AreDistinct (added absent) distinct })

-- a text that is held leaves what was seen as it is
pub insert_key-held : (keys : List (Bor (List ℕ))) (key : Bor (List ℕ)) → Contains (texts_in keys) key.now → insert_key (same_text borrowed) keys key ≡ keys
insert_key-held keys key held = by (list_any (same_text borrowed key) keys) refl
  where
    any_text : (keys : List (Bor (List ℕ))) → list_any (same_text borrowed key) keys ≡ list_any (bytes_eq key.now) (texts_in keys)
    any_text [] = refl
    any_text (first ∷ keys) = ap (λ rest. bytes_eq key.now first.now || rest) (any_text keys)

    by : (b : Bool) → list_any (same_text borrowed key) keys ≡ b → (if b then keys else keys ++ key ∷ []) ≡ keys
    by true is = refl
    by false is = absurd (true≢false (sym (list_any-from_Contains {eq = bytes_eq} (decided bytes_eq bytes_eq-Decides) key.now (texts_in keys) held)
        ∙ sym (any_text keys) ∙ is))

-- a clash of the first of some texts is one of all of them
pub clash_more : (texts later : List (List ℕ)) (text : List ℕ) → IsFirstClash texts text → IsFirstClash (texts ++ later) text
clash_more texts later text is =
    let within = slice_get_within texts is.place text is.here in
    let order = is.before in
    record {
      place = is.place;
      earlier = is.earlier;
      before = is.before;
      here = slice_get_before texts later is.place within ∙ is.here;
      same = slice_get_before texts later is.earlier (omega arith) ∙ is.same;
      first = subst AreDistinct (sym (take-append-le is.place texts later (omega arith))) is.first;
    }

pub refused_more : (texts later : List (List ℕ)) (end : LinkEnd) → IsClash texts end → IsClash (texts ++ later) end
refused_more texts later end (clash_is text is) = clash_is text (clash_more texts later text is)
refused_more texts later end no_room_is = no_room_is

-- one text more of a list is put into the table
module _ (texts names : List (List ℕ)) (n : ℕ) (text : List ℕ) (here : slice_get texts n ≡ Some text) (so_far : AreNamed (take n texts) names) where
  with_text : names ++ text ∷ [] ≡ take (n + 1) texts
  with_text = ap (λ (l : List (List ℕ)). l ++ text ∷ []) so_far.are ∙ sym (take_push texts n text here)

  pub named_step : (after : List (List ℕ)) → AreNamed (names ++ text ∷ []) after → AreNamed (take (n + 1) texts) after
  named_step after now = subst (λ (l : List (List ℕ)). AreNamed l after) with_text now

  pub refused_step : (end : LinkEnd) → IsClash (names ++ text ∷ []) end → IsClash texts end
  refused_step end is =
      subst (λ (l : List (List ℕ)). IsClash l end)
      (ap (λ (l : List (List ℕ)). l ++ drop (n + 1) texts) with_text ∙ take-append-drop (n + 1) texts)
      (refused_more (names ++ text ∷ []) (drop (n + 1) texts) end is)

-- what is held of texts differs
pub named_distinct : (texts names : List (List ℕ)) → AreNamed texts names → AreDistinct names
named_distinct texts names is = subst AreDistinct (sym is.are) is.distinct

pub none_named : (names : List (List ℕ)) → names ≡ [] → AreNamed [] names
none_named names none = record { are = none; distinct = λ i j d before below. absurd (omega arith) }

-- all of them
pub all_named : (texts names : List (List ℕ)) (n : ℕ) → AreNamed (take n texts) names → n ≡ length texts → AreNamed texts names
all_named texts names n is all = subst (λ (l : List (List ℕ)). AreNamed l names) (take_all n texts (omega arith)) is

-- names that are these texts, and differ
pub named_of : (texts names : List (List ℕ)) → names ≡ texts → AreDistinct names → AreNamed texts names
named_of texts names are distinct = record { are = are; distinct = subst AreDistinct are distinct }

pub clash_of : (texts names : List (List ℕ)) → names ≡ texts → (end : LinkEnd) → IsClash names end → IsClash texts end
clash_of texts names are end is = subst (λ (l : List (List ℕ)). IsClash l end) are is
