-- The arcs of a name from those of another name of its group.
use Rattle.std.proofs.Common.{◌≡◌, ℕ, ◌+◌, ◌-◌, ◌<◌, ◌≤◌, Bool, true, false, if◌then◌else◌, List, [], ◌∷◌, ◌++◌, map, drop, take, length, Some, Result, Ok, Err, OnOk, All, refl, sym, ap, ◌∙◌, subst, append_assoc, slice_get, slice_index_or, arith}
use Rattle.std.proofs.lemmas.List.{get_or-drop, length-drop}
use Rattle.std.proofs.Math.ListN.{get_or-append}
use Rattle.std.specs.List.{filter, flat_map, AllZip}
use Rattle.liberty_groups.specs.Groups.{Group, groups_of}
use Rattle.cell_models.specs.declared.cell.Arc.{Arc}
use Rattle.timing_arcs.specs.PinModel.{PinEntry, is_output, direction_of}
use Rattle.timing_arcs.specs.DelayGroups.{DelayGroup, is_delay_group, delays_in, related_names, is_input_in, ArcEntry, arcs_in, IsArc}
use Rattle.timing_arcs.specs.LibraryBasis.{AreAdded}
use Rattle.timing_arcs.specs.CopiedArcs.{led_to, AreArcsTo}
use Rattle.timing_arcs.specs.CellFaults.{delay_questions, IsSound}
use Rattle.timing_arcs.proofs.AddingLemmas.{zip_append}
use Rattle.liberty_tables.proofs.Fronts.{got_at, front_at}

abbrev pub named_to : List ℕ → ArcEntry → ArcEntry
named_to name entry = record { from = entry.from; to = name; group = entry.group }

map_twice : {X Y Z : Type 0} (f : Y → Z) (g : X → Y) (xs : List X) → map f (map g xs) ≡ map (λ x. f (g x)) xs
map_twice f g [] = refl
map_twice f g (x ∷ xs) = ap (λ l. f (g x) ∷ l) (map_twice f g xs)

map_both : {X Y : Type 0} (f : X → Y) (xs ys : List X) → map f (xs ++ ys) ≡ map f xs ++ map f ys
map_both f [] ys = refl
map_both f (x ∷ xs) ys = ap (λ l. f x ∷ l) (map_both f xs ys)

-- ---- the delay groups of a name, and of another

entries_renamed : (pins : List PinEntry) (one other : List ℕ) (groups : List Group)
    → flat_map (arcs_in pins) (map (λ timing. record { to = other; group = timing }) groups) ≡ map (named_to other) (flat_map (arcs_in pins) (map (λ timing. record { to = one; group = timing }) groups))
entries_renamed pins one other [] = refl
entries_renamed pins one other (g ∷ groups) =
    let wanted = filter (is_input_in pins) (related_names g) in
    let here : arcs_in pins (record { to = other; group = g }) ≡ map (named_to other) (arcs_in pins (record { to = one; group = g })) = sym (map_twice (named_to other) (λ name. record { from = name; to = one; group = g }) wanted) in
    ap (λ l. arcs_in pins (record { to = other; group = g }) ++ l) (entries_renamed pins one other groups)
    ∙ ap (λ l. l ++ map (named_to other) (flat_map (arcs_in pins) (map (λ timing. record { to = one; group = timing }) groups))) here
    ∙ sym (map_both (named_to other) (arcs_in pins (record { to = one; group = g })) (flat_map (arcs_in pins) (map (λ timing. record { to = one; group = timing }) groups)))

asks_renamed : (pins : List PinEntry) (one other : List ℕ) (groups : List Group)
    → flat_map (delay_questions pins) (map (λ timing. record { to = one; group = timing }) groups) ≡ flat_map (delay_questions pins) (map (λ timing. record { to = other; group = timing }) groups)
asks_renamed pins one other [] = refl
asks_renamed pins one other (g ∷ groups) = ap (λ l. delay_questions pins (record { to = other; group = g }) ++ l) (asks_renamed pins one other groups)

abbrev delays_if : Bool → List ℕ → List Group → List DelayGroup
delays_if out name groups = if out then map (λ timing. record { to = name; group = timing }) groups else []

entries_if : (out : Bool) (pins : List PinEntry) (one other : List ℕ) (groups : List Group) → flat_map (arcs_in pins) (delays_if out other groups) ≡ map (named_to other) (flat_map (arcs_in pins) (delays_if out one groups))
entries_if true pins one other groups = entries_renamed pins one other groups
entries_if false pins one other groups = refl

asks_if : (out : Bool) (pins : List PinEntry) (one other : List ℕ) (groups : List Group) → flat_map (delay_questions pins) (delays_if out one groups) ≡ flat_map (delay_questions pins) (delays_if out other groups)
asks_if true pins one other groups = asks_renamed pins one other groups
asks_if false pins one other groups = refl

-- ---- their arcs

arcs_renamed : (library : Group) (names : List (List ℕ)) (to : ℕ) (other : List ℕ) (entries : List ArcEntry) (arcs : List Arc) → slice_get names to ≡ Some other
    → AllZip (IsArc library names) entries arcs → AllZip (IsArc library names) (map (named_to other) entries) (map (led_to to) arcs)
arcs_renamed library names to other [] [] here all = tt
arcs_renamed library names to other [] (arc ∷ arcs) here all = absurd all
arcs_renamed library names to other (entry ∷ entries) [] here all = absurd all
arcs_renamed library names to other (entry ∷ entries) (arc ∷ arcs) here all =
    (record { from = all.0.from; to = here; kind = all.0.kind; rise = all.0.rise; fall = all.0.fall }, arcs_renamed library names to other entries arcs here all.1)

-- those of a name, led to another of its group, are added
pub copies_added : (library : Group) (names : List (List ℕ)) (pins : List PinEntry) (entry other : PinEntry) (to : ℕ) (arcs old : List Arc) → entry.group ≡ other.group → slice_get names to ≡ Some other.name
    → AreArcsTo library names pins entry arcs
    → AreAdded library names (flat_map (arcs_in pins) (delays_in other)) (flat_map (delay_questions pins) (delays_in other)) old (old ++ map (led_to to) arcs)
copies_added library names pins entry other to arcs old same here are =
    let one = flat_map (arcs_in pins) (delays_if (is_output (direction_of other.group)) entry.name (filter is_delay_group (groups_of other.group))) in
    let those : AllZip (IsArc library names) one arcs = subst (λ (g : Group). AllZip (IsArc library names) (flat_map (arcs_in pins) (delays_if (is_output (direction_of g)) entry.name (filter is_delay_group (groups_of g)))) arcs) same are.built in
    let sound = subst (λ (g : Group). All (IsSound library) (flat_map (delay_questions pins) (delays_if (is_output (direction_of g)) entry.name (filter is_delay_group (groups_of g))))) same are.sound in
    let led = subst (λ l. AllZip (IsArc library names) l (map (led_to to) arcs)) (sym (entries_if (is_output (direction_of other.group)) pins entry.name other.name (filter is_delay_group (groups_of other.group))))
    (arcs_renamed library names to other.name one arcs here those) in
    record {
      sound = subst (All (IsSound library)) (asks_if (is_output (direction_of other.group)) pins entry.name other.name (filter is_delay_group (groups_of other.group))) sound;
      arcs = λ before all. zip_append (IsArc library names) before (flat_map (arcs_in pins) (delays_in other)) old (map (led_to to) arcs) all led;
    }

-- ---- what stands behind

zip_behind : {A B : Type 0} (R : A → B → Type 0) (xs more : List A) (ys new : List B) → AllZip R xs ys → AllZip R (xs ++ more) new → AllZip R more (drop (length ys) new)
zip_behind R [] more [] new all whole = whole
zip_behind R [] more (y ∷ ys) new all whole = absurd all
zip_behind R (x ∷ xs) more [] new all whole = absurd all
zip_behind R (x ∷ xs) more (y ∷ ys) [] all whole = absurd whole
zip_behind R (x ∷ xs) more (y ∷ ys) (z ∷ new) all whole = zip_behind R xs more ys new all.1 whole.1

-- the arcs that are added are those of the pin
pub arcs_behind : (library : Group) (names : List (List ℕ)) (pins : List PinEntry) (entry : PinEntry) (before : List ArcEntry) (old new : List Arc) → AllZip (IsArc library names) before old
    → AreAdded library names (flat_map (arcs_in pins) (delays_in entry)) (flat_map (delay_questions pins) (delays_in entry)) old new → AreArcsTo library names pins entry (drop (length old) new)
arcs_behind library names pins entry before old new all added = record {
  sound = added.sound;
  built = zip_behind (IsArc library names) before (flat_map (arcs_in pins) (delays_in entry)) old new all (added.arcs before all);
}

-- ---- one more copy

pub copy_next : {X : Type 0} (f : X → X) (old now : List X) (start place : ℕ) (x : X) → start ≤ place → place < length old → now ≡ old ++ map f (take (place - start) (drop start old)) → x ≡ slice_index_or now place x
    → now ++ f x ∷ [] ≡ old ++ map f (take (place + 1 - start) (drop start old))
copy_next f old now start place x from below is read =
    let count = place - start in
    let tail = drop start old in
    let long = length-drop start old in
    let within : count < length tail = omega (arith, long, from, below) in
    let place_is : start + count ≡ place = omega (arith, from) in
    let next : place + 1 - start ≡ count + 1 = omega (arith, from) in
    let of_old : x ≡ slice_index_or old place x = read ∙ ap (λ l. slice_index_or l place x) is ∙ get_or-append old (map f (take count tail)) x place below in
    let of_tail : x ≡ slice_index_or tail count x = of_old ∙ ap (λ n. slice_index_or old n x) (sym place_is) ∙ sym (get_or-drop start old count x) in
    let here = got_at tail count x within of_tail in
    ap (λ l. l ++ f x ∷ []) is ∙ append_assoc old (map f (take count tail)) (f x ∷ [])
    ∙ ap (λ l. old ++ l) (sym (ap (map f) (ap (λ n. take n tail) next ∙ front_at tail count x here) ∙ map_both f (take count tail) (x ∷ [])))

pub copies_on_ok : {T E : Type 0} (r : Result T E) (library : Group) (names : List (List ℕ)) (pins : List PinEntry) (entry other : PinEntry) (to : ℕ) (arcs old new : List Arc) → entry.group ≡ other.group → slice_get names to ≡ Some other.name
    → AreArcsTo library names pins entry arcs → OnOk r (new ≡ old ++ map (led_to to) arcs)
    → OnOk r (AreAdded library names (flat_map (arcs_in pins) (delays_in other)) (flat_map (delay_questions pins) (delays_in other)) old new)
copies_on_ok (Err e) library names pins entry other to arcs old new same here are is = search
copies_on_ok (Ok v) library names pins entry other to arcs old new same here are is =
    subst (AreAdded library names (flat_map (arcs_in pins) (delays_in other)) (flat_map (delay_questions pins) (delays_in other)) old) (sym is) (copies_added library names pins entry other to arcs old same here are)
