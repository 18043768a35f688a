-- The places of the related pins that have been looked up.
use Rattle.std.proofs.Common.{◌≡◌, ◌≢◌, ℕ, zero, suc, ◌<◌, Bool, true, false, cond, ◌||◌, ◌&&◌, List, [], ◌∷◌, ◌++◌, length, slice_get, slice_index_or, Option, Some, None, All, AllPairs, Contains, refl, sym, ap, ◌∙◌, subst, arith, append_assoc, append-nil}
use Rattle.std.specs.List.{list_any, filter, AllZip}
use Rattle.std.specs.Str.{bytes_eq}
use Rattle.std.proofs.lemmas.Slice.Eq.{bytes_eq-Decides}
use Rattle.std.proofs.lemmas.List.Elements.{All-nil, All-cons, All-append, Contains-append_left, Contains-append_right}
use Rattle.std.proofs.lemmas.List.Elements.{filter-append}
use Rattle.std.proofs.lemmas.Option.{slice_get_within}
use Rattle.liberty_groups.specs.Groups.{Group}
use Rattle.liberty_groups.specs.Tables.{Tables}
use Rattle.liberty_groups.specs.declared.rows.GroupId.{GroupId}
use Rattle.cell_models.specs.declared.cell.Direction.{Direction}
use Rattle.cell_models.specs.declared.cell.Pin.{Pin}
use Rattle.liberty_tables.specs.declared.faults.CellFault.{CellFault}
use Rattle.liberty_tables.specs.declared.faults.CellFault.TheVariants.{UnknownRelatedPin}
use Rattle.timing_arcs.specs.PinModel.{PinEntry, is_pin_of, direction_of, IsPin}
use Rattle.timing_arcs.specs.PinTable.{entry_at, entries_in}
use Rattle.timing_arcs.specs.DelayGroups.{is_pin_in, is_input_in}
use Rattle.timing_arcs.specs.RelatedPins.{IsAt, IsPlaceOf, input_pin, other_pin, ArePlaces, IsUnrelated, unknown_name, no_places_memory}
use Rattle.liberty_tables.proofs.Fronts.{some_is, zip_push, zip_length}
use Rattle.timing_arcs.proofs.PinLemmas.{held_by_name, names_of_entries, entries_length, name_held, name_absent}

-- ---- a name that is looked up

pub pin_known : (tree : Tables) (names : List (List ℕ)) (ids : List GroupId) (name : List ℕ) (k : ℕ) → length names ≡ length ids → slice_get names k ≡ Some name → is_pin_in (entries_in tree names ids) name ≡ true
pin_known tree names ids name k even e = held_by_name name (entries_in tree names ids) ∙ ap (list_any (λ other. bytes_eq other name)) (names_of_entries tree names ids even) ∙ name_held names name k e

pub pin_unknown : (tree : Tables) (names : List (List ℕ)) (ids : List GroupId) (name : List ℕ) → length names ≡ length ids → (Contains names name → ⊥) → is_pin_in (entries_in tree names ids) name ≡ false
pin_unknown tree names ids name even none = held_by_name name (entries_in tree names ids) ∙ ap (list_any (λ other. bytes_eq other name)) (names_of_entries tree names ids even) ∙ name_absent names name none

-- some pin of this name has a direction that passes a test
abbrev pub way_in : (Option Direction → Bool) → List PinEntry → List ℕ → Bool
way_in test pins name = list_any (λ (entry : PinEntry). is_pin_of name entry && test (direction_of entry.group)) pins

-- no entry of other names is such a pin
none_other : (test : Option Direction → Bool) (tree : Tables) (names : List (List ℕ)) (ids : List GroupId) (name : List ℕ) → ((k : ℕ) → k < length names → slice_index_or names k name ≢ name) → way_in test (entries_in tree names ids) name ≡ false
unfolding entries_in
none_other test tree [] ids name others = refl
none_other test tree (n ∷ names) [] name others = refl
none_other test tree (n ∷ names) (id ∷ ids) name others = by_test (bytes_eq n name) refl ∙ none_other test tree names ids name (λ k below. others (suc k) (omega (arith, below)))
  where
    by_test : (b : Bool) → bytes_eq n name ≡ b → ((b && test (direction_of (entry_at tree n id).group)) || way_in test (entries_in tree names ids) name) ≡ way_in test (entries_in tree names ids) name
    by_test true e = absurd (others 0 (omega arith) ((bytes_eq-Decides n name).0 e))
    by_test false e = refl

-- the entry at a place decides for its name, since the names are distinct
pub way_at : (test : Option Direction → Bool) (tree : Tables) (names : List (List ℕ)) (ids : List GroupId) (name : List ℕ) (k : ℕ) (id : GroupId) → AllPairs (λ one other. one ≢ other) names → slice_get names k ≡ Some name → slice_get ids k ≡ Some id
    → way_in test (entries_in tree names ids) name ≡ test (direction_of (entry_at tree name id).group)
unfolding entries_in
way_at test tree [] ids name k id apart e f = cc
way_at test tree (n ∷ names) [] name k id apart e f = cc
way_at test tree (n ∷ names) (i ∷ ids) name zero id apart e f =
    let same : n ≡ name = some_is n name e in
    let same_id : i ≡ id = some_is i id f in
    let rest : way_in test (entries_in tree names ids) name ≡ false = none_other test tree names ids name (λ k below is. apart 0 (suc k) name (omega arith) (omega (arith, below)) (same ∙ sym is)) in
    ap (λ b. (b && test (direction_of (entry_at tree n i).group)) || way_in test (entries_in tree names ids) name) ((bytes_eq-Decides n name).1 same)
    ∙ ap (λ b. test (direction_of (entry_at tree n i).group) || b) rest
    ∙ or_false (test (direction_of (entry_at tree n i).group))
    ∙ ap (λ x. test (direction_of (entry_at tree name x).group)) same_id
  where
    or_false : (b : Bool) → (b || false) ≡ b
    or_false true = refl
    or_false false = refl
way_at test tree (n ∷ names) (i ∷ ids) name (suc k) id apart e f =
    by_test (bytes_eq n name) refl ∙ way_at test tree names ids name k id (λ a b d before below. apart (suc a) (suc b) d (omega (arith, before)) (omega (arith, below))) e f
  where
    within : (xs : List (List ℕ)) (k : ℕ) (x : List ℕ) → slice_get xs k ≡ Some x → (k < length xs) × (slice_index_or xs k x ≡ x)
    within [] k x e = cc
    within (y ∷ xs) zero x e = (omega arith, some_is y x e)
    within (y ∷ xs) (suc k) x e = let h = within xs k x e in (let below = h.0 in omega (arith, below), h.1)

    by_test : (b : Bool) → bytes_eq n name ≡ b → ((b && test (direction_of (entry_at tree n i).group)) || way_in test (entries_in tree names ids) name) ≡ way_in test (entries_in tree names ids) name
    by_test true t =
        let here = within names k name e in
        let below = here.0 in
        absurd (apart 0 (suc k) name (omega arith) (omega (arith, below)) ((bytes_eq-Decides n name).0 t ∙ sym here.1))
    by_test false t = refl

-- the pin at a place has the direction of its entry
pub pin_at : (library : Group) (tree : Tables) (names : List (List ℕ)) (ids : List GroupId) (pins : List Pin) (k : ℕ) (id : GroupId) (pin : Pin) (name : List ℕ) → AllZip (IsPin library) (entries_in tree names ids) pins
    → slice_get names k ≡ Some name → slice_get ids k ≡ Some id → slice_get pins k ≡ Some pin → direction_of (entry_at tree name id).group ≡ Some pin.direction
unfolding entries_in
pin_at library tree [] ids pins k id pin name all e f g = cc
pin_at library tree (n ∷ names) [] pins k id pin name all e f g = cc
pin_at library tree (n ∷ names) (i ∷ ids) [] k id pin name all e f g = cc
pin_at library tree (n ∷ names) (i ∷ ids) (p ∷ pins) zero id pin name all e f g =
    let one = some_is i id f in
    let two = some_is p pin g in
    let is = all.0 in
    subst (λ x. direction_of (entry_at tree name x).group ≡ Some pin.direction) one (is.direction ∙ ap (λ (x : Pin). Some x.direction) two)
pin_at library tree (n ∷ names) (i ∷ ids) (p ∷ pins) (suc k) id pin name all e f g = pin_at library tree names ids pins k id pin name all.1 e f g

pub got_below : {X : Type 0} (xs : List X) (k : ℕ) → k < length xs → (x : X) × (slice_get xs k ≡ Some x)
got_below [] k b = absurd (omega (arith, b))
got_below (x ∷ xs) zero b = (x, refl)
got_below (x ∷ xs) (suc k) b = got_below xs k (omega (arith, b))

-- a name that stands at a place is that of such a pin where the pin there is one
pub place_is : (test : Option Direction → Bool) (library : Group) (tree : Tables) (names : List (List ℕ)) (ids : List GroupId) (pins : List Pin) (name : List ℕ) (k : ℕ) (pin : Pin) → AllPairs (λ one other. one ≢ other) names
    → length names ≡ length ids → AllZip (IsPin library) (entries_in tree names ids) pins → slice_get names k ≡ Some name → slice_get pins k ≡ Some pin → way_in test (entries_in tree names ids) name ≡ test (Some pin.direction)
place_is test library tree names ids pins name k pin apart even all e f =
    let below = slice_get_within names k name e in
    let id = got_below ids k (omega (arith, below, even)) in
    way_at test tree names ids name k id.0 apart e id.1 ∙ ap test (pin_at library tree names ids pins k id.0 pin name all e id.1 f)

-- a name that stands at a place has a pin there
pub pin_below : (library : Group) (tree : Tables) (names : List (List ℕ)) (ids : List GroupId) (pins : List Pin) (name : List ℕ) (k : ℕ) → length names ≡ length ids → AllZip (IsPin library) (entries_in tree names ids) pins
    → slice_get names k ≡ Some name → k < length pins
pin_below library tree names ids pins name k even all e =
    let below = slice_get_within names k name e in
    let long = entries_length tree names ids even in
    let zipped = zip_length (IsPin library) (entries_in tree names ids) pins all in
    omega (arith, below, long, zipped, even)

-- ---- names, one after another

filter_one : {X : Type 0} (p : X → Bool) (xs : List X) (x : X) → filter p (xs ++ x ∷ []) ≡ filter p xs ++ filter p (x ∷ [])
filter_one p xs x = filter-append p xs (x ∷ [])

known_more : (pins : List PinEntry) (done : List (List ℕ)) (name : List ℕ) → All (λ x. is_pin_in pins x ≡ true) done → is_pin_in pins name ≡ true → All (λ x. is_pin_in pins x ≡ true) (done ++ name ∷ [])
known_more pins done name known also = All-append (λ x. is_pin_in pins x ≡ true) done (name ∷ []) known (All-cons (λ x. is_pin_in pins x ≡ true) name [] also (All-nil (λ x. is_pin_in pins x ≡ true)))

pub placed_more : (pins : List PinEntry) (names done : List (List ℕ)) (places : List ℕ) (name : List ℕ) (place : ℕ) → ArePlaces pins names done places → IsPlaceOf pins names name (Some place) → ArePlaces pins names (done ++ name ∷ []) (places ++ place ∷ [])
placed_more pins names done places name place are (input_pin here known input) = record {
  known = known_more pins done name are.known known;
  placed = subst (λ l. AllZip (IsAt names) l (places ++ place ∷ [])) (sym (filter_one (is_input_in pins) done name ∙ ap (λ b. filter (is_input_in pins) done ++ cond b (name ∷ []) []) input))
      (zip_push (IsAt names) (filter (is_input_in pins) done) places name place are.placed here);
}

pub passed_more : (pins : List PinEntry) (names done : List (List ℕ)) (places : List ℕ) (name : List ℕ) → ArePlaces pins names done places → IsPlaceOf pins names name None → ArePlaces pins names (done ++ name ∷ []) places
passed_more pins names done places name are (other_pin known other) = record {
  known = known_more pins done name are.known known;
  placed = subst (λ l. AllZip (IsAt names) l places) (sym (filter_one (is_input_in pins) done name ∙ ap (λ b. filter (is_input_in pins) done ++ cond b (name ∷ []) []) other ∙ append-nil (filter (is_input_in pins) done))) are.placed;
}

-- ---- the names of a text so far

-- some of the names have been looked up, and the others are left
pub record ArePlacesSo (pins : List PinEntry) (names : List (List ℕ)) (all left : List (List ℕ)) (places : List ℕ) : Type 0 where
  pub done : List (List ℕ)
  pub split : all ≡ done ++ left
  pub so_far : ArePlaces pins names done places

pub none_so : (pins : List PinEntry) (names all : List (List ℕ)) (places : List ℕ) → places ≡ [] → ArePlacesSo pins names all all places
none_so pins names all places none = record { done = []; split = refl; so_far = subst (ArePlaces pins names []) (sym none) (record { known = All-nil (λ x. is_pin_in pins x ≡ true); placed = tt }) }

pub one_more_so : (pins : List PinEntry) (names all left : List (List ℕ)) (name : List ℕ) (others : List (List ℕ)) (places places' : List ℕ) → left ≡ name ∷ others
    → (so : ArePlacesSo pins names all left places) → ((done : List (List ℕ)) → ArePlaces pins names done places → ArePlaces pins names (done ++ name ∷ []) places') → ArePlacesSo pins names all others places'
one_more_so pins names all left name others places places' e so step = record {
  done = so.done ++ name ∷ [];
  split = so.split ∙ ap (λ l. so.done ++ l) e ∙ sym (append_assoc so.done (name ∷ []) others);
  so_far = step so.done so.so_far;
}

-- all of them
pub all_so : (pins : List PinEntry) (names all left : List (List ℕ)) (places : List ℕ) → left ≡ [] → ArePlacesSo pins names all left places → ArePlaces pins names all places
all_so pins names all left places none so = subst (λ l. ArePlaces pins names l places) (sym (so.split ∙ ap (λ l. so.done ++ l) none ∙ append-nil so.done)) so.so_far

-- a fault of one of them is one of all
pub unrelated_so : (pins : List PinEntry) (names all left : List (List ℕ)) (name : List ℕ) (others : List (List ℕ)) (places : List ℕ) (fault : CellFault) → left ≡ name ∷ others
    → (so : ArePlacesSo pins names all left places) → IsUnrelated pins (name ∷ []) fault → IsUnrelated pins all fault
unrelated_so pins names all left name others places fault e so no_places_memory = no_places_memory
unrelated_so pins names all left name others places fault e so (unknown_name {name = unknown} among is) =
    unknown_name (subst (λ l. Contains l unknown) (sym (so.split ∙ ap (λ l. so.done ++ l) e))
    (Contains-append_right so.done (name ∷ others) unknown (Contains-append_left (name ∷ []) others unknown among))) is

pub unknown_sole : (pins : List PinEntry) (name : List ℕ) → is_pin_in pins name ≡ false → IsUnrelated pins (name ∷ []) UnknownRelatedPin
unknown_sole pins name unknown = unknown_name {name = name} (0, omega arith, refl) unknown
