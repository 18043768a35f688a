-- Arcs that are added, one part after another.
use Rattle.std.proofs.Common.{◌≡◌, ℕ, ◌+◌, ◌≤◌, Bool, true, false, if◌then◌else◌, List, [], ◌∷◌, ◌++◌, map, take, Option, Some, Result, Ok, Err, OnOk, IfErr, All, refl, sym, ap, ◌∙◌, subst, append_assoc, append-nil, length}
use Rattle.std.specs.List.{slice_get, filter, flat_map, AllZip}
use Rattle.std.proofs.lemmas.List.Elements.{All-nil, All-cons}
use Rattle.std.proofs.lemmas.List.Concat.{flat_map-append}
use Rattle.liberty_groups.specs.Groups.{Group, groups_of}
use Rattle.cell_models.specs.declared.cell.ArcKind.{ArcKind}
use Rattle.cell_models.specs.declared.cell.EdgeTables.{EdgeTables}
use Rattle.cell_models.specs.declared.cell.Arc.{Arc}
use Rattle.liberty_tables.specs.declared.faults.CellFault.{CellFault}
use Rattle.timing_arcs.specs.PinModel.{PinEntry, is_output, direction_of}
use Rattle.timing_arcs.specs.DelayGroups.{DelayGroup, delays_in, is_delay_group, related_names, is_input_in, ArcEntry, arcs_in, IsArc}
use Rattle.timing_arcs.specs.RelatedPins.{IsAt, ArePlaces, IsUnrelated, unknown_name, no_places_memory}
use Rattle.timing_arcs.specs.LibraryBasis.{IsTiming, arc_from, AddsArcs, AreAdded, arcs_from, questions_from, IsNoMemory}
use Rattle.timing_arcs.specs.CellFaults.{Question, related_pins, rise_questions, fall_questions, delay_questions, IsSound, related, unrelated, IsRefusal, no_memory}
use Rattle.liberty_tables.proofs.Fronts.{front_at, all_taken}
use Rattle.timing_arcs.proofs.Refusals.{refused_at_once, refused_behind, sound_one, sound_part}

pub zip_append : {A B : Type 0} (R : A → B → Type 0) (xs xs' : List A) (ys ys' : List B) → AllZip R xs ys → AllZip R xs' ys' → AllZip R (xs ++ xs') (ys ++ ys')
zip_append R [] xs' [] ys' all also = also
zip_append R [] xs' (y ∷ ys) ys' all also = absurd all
zip_append R (x ∷ xs) xs' [] ys' all also = absurd all
zip_append R (x ∷ xs) xs' (y ∷ ys) ys' all also = (all.0, zip_append R xs xs' ys ys' all.1 also)

-- an arc from each place is that of its name
arcs_at : (library : Group) (names : List (List ℕ)) (timing : Group) (kind : ArcKind) (rise fall : Option EdgeTables) (to : ℕ) (name : List ℕ) → IsTiming library timing kind rise fall → slice_get names to ≡ Some name
    → (wanted : List (List ℕ)) (places : List ℕ) → AllZip (IsAt names) wanted places
    → AllZip (IsArc library names) (map (λ from. record { from = from; to = name; group = timing }) wanted) (map (arc_from kind rise fall to) places)
arcs_at library names timing kind rise fall to name is here [] [] all = tt
arcs_at library names timing kind rise fall to name is here [] (p ∷ places) all = absurd all
arcs_at library names timing kind rise fall to name is here (r ∷ wanted) [] all = absurd all
arcs_at library names timing kind rise fall to name is here (r ∷ wanted) (p ∷ places) all =
    (record { from = all.0; to = here; kind = is.kind_is; rise = is.rise_is; fall = is.fall_is }, arcs_at library names timing kind rise fall to name is here wanted places all.1)

-- ---- one delay group

pub added_group : {T E : Type 0} (r : Result T E) (library : Group) (pins : List PinEntry) (names : List (List ℕ)) (timing : Group) (kind : ArcKind) (rise fall : Option EdgeTables) (places : List ℕ) (to : ℕ) (name : List ℕ) (old new : List Arc)
    → ArePlaces pins names (related_names timing) places → IsTiming library timing kind rise fall → All (IsSound library) (rise_questions timing ++ fall_questions timing)
    → OnOk r (AddsArcs kind rise fall places to old new) → slice_get names to ≡ Some name
    → OnOk r (AreAdded library names (arcs_in pins (record { to = name; group = timing })) (delay_questions pins (record { to = name; group = timing })) old new)
added_group (Err e) library pins names timing kind rise fall places to name old new are is sound adds here = search
added_group (Ok v) library pins names timing kind rise fall places to name old new are is sound adds here = record {
  sound = All-cons (IsSound library) (related_pins pins timing) (rise_questions timing ++ fall_questions timing) (related are.known) sound;
  arcs = λ before all. subst (AllZip (IsArc library names) (before ++ arcs_in pins (record { to = name; group = timing }))) (sym adds)
      (zip_append (IsArc library names) before (arcs_in pins (record { to = name; group = timing })) old (map (arc_from kind rise fall to) places) all
      (arcs_at library names timing kind rise fall to name is here (filter (is_input_in pins) (related_names timing)) places are.placed));
}

pub refused_related : (library : Group) (pins : List PinEntry) (name : List ℕ) (timing : Group) (fault : CellFault) → IsUnrelated pins (related_names timing) fault → IsRefusal library (delay_questions pins (record { to = name; group = timing })) fault
refused_related library pins name timing fault (unknown_name among unknown) = refused_at_once (rise_questions timing ++ fall_questions timing) (unrelated among unknown)
refused_related library pins name timing fault no_places_memory = no_memory

pub refused_timing : (library : Group) (pins : List PinEntry) (names : List (List ℕ)) (name : List ℕ) (timing : Group) (places : List ℕ) (fault : CellFault) → ArePlaces pins names (related_names timing) places
    → IsRefusal library (rise_questions timing ++ fall_questions timing) fault → IsRefusal library (delay_questions pins (record { to = name; group = timing })) fault
refused_timing library pins names name timing places fault are refused = refused_behind (related_pins pins timing ∷ []) (rise_questions timing ++ fall_questions timing) (sound_one (related are.known)) refused

pub refused_pushing : {T : Type 0} (r : Result T CellFault) (library : Group) (questions : List Question) → IfErr r IsNoMemory → IfErr r (IsRefusal library questions)
refused_pushing (Ok v) library questions none = search
refused_pushing (Err fault) library questions none = subst (IsRefusal library questions) (sym none) no_memory

-- ---- one part after another

pub nothing_added : (library : Group) (names : List (List ℕ)) (arcs : List Arc) → AreAdded library names [] [] arcs arcs
nothing_added library names arcs = record {
  sound = All-nil (IsSound library);
  arcs = λ before all. subst (λ l. AllZip (IsArc library names) l arcs) (sym (append-nil before)) all;
}

pub added_part : {X : Type 0} (library : Group) (names : List (List ℕ)) (of : X → List ArcEntry) (asks : X → List Question) (xs : List X) (k : ℕ) (x : X) (old mid new : List Arc) → slice_get xs k ≡ Some x
    → AreAdded library names (flat_map of (take k xs)) (flat_map asks (take k xs)) old mid → AreAdded library names (of x) (asks x) mid new
    → AreAdded library names (flat_map of (take (k + 1) xs)) (flat_map asks (take (k + 1) xs)) old new
added_part library names of asks xs k x old mid new e so more = record {
  sound = sound_part asks xs k x e so.sound more.sound;
  arcs = λ before all. subst (λ l. AllZip (IsArc library names) l new)
      (append_assoc before (flat_map of (take k xs)) (of x) ∙ ap (λ l. before ++ l) (sym (ap (flat_map of) (front_at xs k x e) ∙ flat_map-append of (take k xs) (x ∷ []) ∙ ap (λ l. flat_map of (take k xs) ++ l) (append-nil (of x)))))
      (more.arcs (before ++ flat_map of (take k xs)) (so.arcs before all));
}

-- all of them
pub added_all : {X : Type 0} (library : Group) (names : List (List ℕ)) (of : X → List ArcEntry) (asks : X → List Question) (xs : List X) (k : ℕ) (old new : List Arc) → length xs ≤ k
    → AreAdded library names (flat_map of (take k xs)) (flat_map asks (take k xs)) old new → AreAdded library names (flat_map of xs) (flat_map asks xs) old new
added_all library names of asks xs k old new past added = subst (λ l. AreAdded library names (flat_map of l) (flat_map asks l) old new) (all_taken xs k past) added

-- ---- the delay groups of a pin, as a part of each group in it

pub parts_of_delays : {Y : Type 0} (f : DelayGroup → List Y) (name : List ℕ) (groups : List Group)
    → flat_map (λ timing. if is_delay_group timing then f (record { to = name; group = timing }) else []) groups ≡ flat_map f (map (λ timing. record { to = name; group = timing }) (filter is_delay_group groups))
parts_of_delays f name [] = refl
parts_of_delays f name (g ∷ groups) = ap (λ l. (if is_delay_group g then f (record { to = name; group = g }) else []) ++ l) (parts_of_delays f name groups) ∙ by_test (is_delay_group g)
  where
    by_test : (b : Bool) → (if b then f (record { to = name; group = g }) else []) ++ flat_map f (map (λ timing. record { to = name; group = timing }) (filter is_delay_group groups))
        ≡ flat_map f (map (λ timing. record { to = name; group = timing }) (if b then g ∷ filter is_delay_group groups else filter is_delay_group groups))
    by_test true = refl
    by_test false = refl

pub delays_of_output : {Y : Type 0} (f : DelayGroup → List Y) (entry : PinEntry) → is_output (direction_of entry.group) ≡ true
    → flat_map (λ timing. if is_delay_group timing then f (record { to = entry.name; group = timing }) else []) (groups_of entry.group) ≡ flat_map f (delays_in entry)
delays_of_output f entry out =
    parts_of_delays f entry.name (groups_of entry.group)
    ∙ sym (ap (λ b. flat_map f (if b then map (λ timing. record { to = entry.name; group = timing }) (filter is_delay_group (groups_of entry.group)) else [])) out)

pub delays_of_other : {Y : Type 0} (f : DelayGroup → List Y) (entry : PinEntry) → is_output (direction_of entry.group) ≡ false → flat_map f (delays_in entry) ≡ []
delays_of_other f entry other = ap (λ b. flat_map f (if b then map (λ timing. record { to = entry.name; group = timing }) (filter is_delay_group (groups_of entry.group)) else [])) other

pub parts_in_parts : {X Y Z : Type 0} (f : Y → List Z) (g : X → List Y) (xs : List X) → flat_map (λ x. flat_map f (g x)) xs ≡ flat_map f (flat_map g xs)
parts_in_parts f g [] = refl
parts_in_parts f g (x ∷ xs) = ap (λ l. flat_map f (g x) ++ l) (parts_in_parts f g xs) ∙ sym (flat_map-append f (g x) (flat_map g xs))

-- ---- a group in a pin, which may be a delay group

pub added_if : {T E : Type 0} (r : Result T E) (library : Group) (names : List (List ℕ)) (pins : List PinEntry) (name : List ℕ) (timing : Group) (old new : List Arc) → is_delay_group timing ≡ true
    → OnOk r (AreAdded library names (arcs_in pins (record { to = name; group = timing })) (delay_questions pins (record { to = name; group = timing })) old new)
    → OnOk r (AreAdded library names (arcs_from pins name timing) (questions_from pins name timing) old new)
added_if r library names pins name timing old new is added =
    subst (λ (b : Bool). OnOk r (AreAdded library names (if b then arcs_in pins (record { to = name; group = timing }) else []) (if b then delay_questions pins (record { to = name; group = timing }) else []) old new)) (sym is) added

pub refused_if : {T : Type 0} (r : Result T CellFault) (library : Group) (pins : List PinEntry) (name : List ℕ) (timing : Group) → is_delay_group timing ≡ true
    → IfErr r (IsRefusal library (delay_questions pins (record { to = name; group = timing }))) → IfErr r (IsRefusal library (questions_from pins name timing))
refused_if r library pins name timing is refused =
    subst (λ (b : Bool). IfErr r (IsRefusal library (if b then delay_questions pins (record { to = name; group = timing }) else []))) (sym is) refused

pub added_not : (library : Group) (names : List (List ℕ)) (pins : List PinEntry) (name : List ℕ) (timing : Group) (arcs : List Arc) → is_delay_group timing ≡ false
    → AreAdded library names (arcs_from pins name timing) (questions_from pins name timing) arcs arcs
added_not library names pins name timing arcs is =
    subst (λ (b : Bool). AreAdded library names (if b then arcs_in pins (record { to = name; group = timing }) else []) (if b then delay_questions pins (record { to = name; group = timing }) else []) arcs arcs) (sym is) (nothing_added library names arcs)

-- ---- a pin

pub added_output : {T E : Type 0} (r : Result T E) (library : Group) (names : List (List ℕ)) (pins : List PinEntry) (entry : PinEntry) (old new : List Arc) → is_output (direction_of entry.group) ≡ true
    → OnOk r (AreAdded library names (flat_map (arcs_from pins entry.name) (groups_of entry.group)) (flat_map (questions_from pins entry.name) (groups_of entry.group)) old new)
    → OnOk r (AreAdded library names (flat_map (arcs_in pins) (delays_in entry)) (flat_map (delay_questions pins) (delays_in entry)) old new)
added_output r library names pins entry old new is added =
    subst (λ l. OnOk r (AreAdded library names l (flat_map (delay_questions pins) (delays_in entry)) old new)) (delays_of_output (arcs_in pins) entry is)
    (subst (λ l. OnOk r (AreAdded library names (flat_map (arcs_from pins entry.name) (groups_of entry.group)) l old new)) (delays_of_output (delay_questions pins) entry is) added)

pub refused_output : {T : Type 0} (r : Result T CellFault) (library : Group) (pins : List PinEntry) (entry : PinEntry) → is_output (direction_of entry.group) ≡ true
    → IfErr r (IsRefusal library (flat_map (questions_from pins entry.name) (groups_of entry.group))) → IfErr r (IsRefusal library (flat_map (delay_questions pins) (delays_in entry)))
refused_output r library pins entry is refused = subst (λ l. IfErr r (IsRefusal library l)) (delays_of_output (delay_questions pins) entry is) refused

pub added_other : (library : Group) (names : List (List ℕ)) (pins : List PinEntry) (entry : PinEntry) (arcs : List Arc) → is_output (direction_of entry.group) ≡ false
    → AreAdded library names (flat_map (arcs_in pins) (delays_in entry)) (flat_map (delay_questions pins) (delays_in entry)) arcs arcs
added_other library names pins entry arcs is =
    subst (λ l. AreAdded library names l (flat_map (delay_questions pins) (delays_in entry)) arcs arcs) (sym (delays_of_other (arcs_in pins) entry is))
    (subst (λ l. AreAdded library names [] l arcs arcs) (sym (delays_of_other (delay_questions pins) entry is)) (nothing_added library names arcs))
