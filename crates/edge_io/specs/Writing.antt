-- What a function that writes a text says, and how writings follow one another.
use Rattle.std.specs.Prelude.{◌≡◌, ℕ, ◌+◌, ◌<◌, ◌≤◌, List, [], ◌∷◌, ◌++◌, length, take, drop, get_or, flat_map, Option, Result, Ok, Err, OnOk, OnErr}
use Rattle.std.proofs.Common.{ap, sym, ◌∙◌, arith}
use Rattle.std.proofs.lemmas.List.{append-nil, take_more, take-append-drop}
use Rattle.std.proofs.lemmas.Grind.{flat_map-append}
use Rattle.std.proofs.Math.Seq.{take-length}
use Rattle.edge_io.specs.Counts.{Rose}
use Rattle.edge_io.specs.Told.{appended, AppendsFrontOf, appended-appended, appended-nothing, front_of_first, front_after, front_of_all}
use Rattle.edge_io.specs.declared.failures.Failed.{Failed}

-- on `Ok` the text was put at the end; on `Err` a front of it was, and the count of faults rose
pub record Writes (text : List ℕ) (before after : Option (List ℕ)) (faults faults' : ℕ) (result : Result (Unit {0}) Failed) : Type 0 where
  pub ok : OnOk result (after ≡ appended before text)
  pub cut : OnErr result (AppendsFrontOf text before after)
  pub later : faults ≤ faults'
  pub cause : OnErr result (Rose faults faults')

-- a writing that was cut cuts the longer text that begins with it
pub writes_cut : (first second : List ℕ) {before after : Option (List ℕ)} {faults faults' : ℕ} {failed failed' : Failed}
    → Writes first before after faults faults' (Err failed) → Writes (first ++ second) before after faults faults' (Err failed')
writes_cut first second w = record {
  ok = tt;
  cut = front_of_first first second _ _ w.cut;
  later = w.later;
  cause = w.cause;
}

-- one writing after another that was whole is the writing of both texts
pub writes_then : (first second : List ℕ) {before middle after : Option (List ℕ)} {faults faults₁ faults₂ : ℕ} {done : Unit {0}}
    {result : Result (Unit {0}) Failed} → Writes first before middle faults faults₁ (Ok done)
    → Writes second middle after faults₁ faults₂ result → Writes (first ++ second) before after faults faults₂ result
writes_then first second {before} {result = Ok _} w v = record {
  ok = v.ok ∙ ap (λ m. appended m second) w.ok ∙ appended-appended before first second;
  cut = tt;
  later = omega (arith, w.later, v.later);
  cause = tt;
}
writes_then first second {result = Err _} w v = record {
  ok = tt;
  cut = front_after first second _ _ _ w.ok v.cut;
  later = omega (arith, w.later, v.later);
  cause = omega (arith, w.later, v.cause);
}

-- nothing was written
pub writes_nothing : (before : Option (List ℕ)) (faults : ℕ) → Writes [] before before faults faults (Ok tt)
writes_nothing before faults = record {
  ok = sym (appended-nothing before);
  cut = tt;
  later = omega arith;
  cause = tt;
}

-- however a writing ended, a front of the text was put at the end
pub written_or_cut : (text : List ℕ) {before after : Option (List ℕ)} {faults faults' : ℕ} {result : Result (Unit {0}) Failed}
    → Writes text before after faults faults' result → AppendsFrontOf text before after
written_or_cut text {result = Ok _} w = front_of_all text _ _ w.ok
written_or_cut text {result = Err _} w = w.cut

-- the text of one item more
pub flat_map_more : {X : Type 0} (text_of : X → List ℕ) (items : List X) (i : ℕ) (d : X) → i < length items
    → flat_map text_of (take (i + 1) items) ≡ flat_map text_of (take i items) ++ text_of (get_or items i d)
flat_map_more text_of items i d below =
    ap (flat_map text_of) (take_more items i d below)
    ∙ flat_map-append text_of (take i items) (get_or items i d ∷ [])
    ∙ ap (λ t. flat_map text_of (take i items) ++ t) (append-nil (text_of (get_or items i d)))

-- the text of all items begins with that of the first ones
pub flat_map_front : {X : Type 0} (text_of : X → List ℕ) (items : List X) (i : ℕ)
    → flat_map text_of items ≡ flat_map text_of (take i items) ++ flat_map text_of (drop i items)
flat_map_front text_of items i =
    ap (flat_map text_of) (sym (take-append-drop i items)) ∙ flat_map-append text_of (take i items) (drop i items)

-- Of a loop that writes items one after another the invariant is that those before `i` are written:
-- `Writes (flat_map text_of (take i items)) .. (Ok tt)`. The next three say how it goes on and ends.

-- a loop over items: those before `i` are written, and then the one at `i`
pub items_then : {X : Type 0} (text_of : X → List ℕ) (items : List X) (i : ℕ) (item : X) {before middle after : Option (List ℕ)}
    {faults faults₁ faults₂ : ℕ} {done done' : Unit {0}} → i < length items → item ≡ get_or items i item
    → Writes (flat_map text_of (take i items)) before middle faults faults₁ (Ok done)
    → Writes (text_of item) middle after faults₁ faults₂ (Ok done')
    → Writes (flat_map text_of (take (i + 1) items)) before after faults faults₂ (Ok tt)
items_then text_of items i item below here w v =
    rw (flat_map_more text_of items i item below, ← here)
    (writes_then (flat_map text_of (take i items)) (text_of item) {result = Ok tt} w v)

-- a loop over items: those before `i` are written, and the one at `i` is cut
pub items_cut : {X : Type 0} (text_of : X → List ℕ) (items : List X) (i : ℕ) (item : X) {before middle after : Option (List ℕ)}
    {faults faults₁ faults₂ : ℕ} {done : Unit {0}} {failed failed' : Failed} → i < length items → item ≡ get_or items i item
    → Writes (flat_map text_of (take i items)) before middle faults faults₁ (Ok done)
    → Writes (text_of item) middle after faults₁ faults₂ (Err failed)
    → Writes (flat_map text_of items) before after faults faults₂ (Err failed')
items_cut text_of items i item below here w v =
    rw (flat_map_front text_of items (i + 1), flat_map_more text_of items i item below, ← here)
    (writes_cut (flat_map text_of (take i items) ++ text_of item) (flat_map text_of (drop (i + 1) items))
    (writes_then (flat_map text_of (take i items)) (text_of item) w v))

-- a loop over items: all of them are written
pub items_all : {X : Type 0} (text_of : X → List ℕ) (items : List X) {before after : Option (List ℕ)} {faults faults' : ℕ} {done : Unit {0}}
    → Writes (flat_map text_of (take (length items) items)) before after faults faults' (Ok done)
    → Writes (flat_map text_of items) before after faults faults' (Ok tt)
items_all text_of items w = rw (← take-length items) w
