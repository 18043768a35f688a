-- The names of a cell's pins as they are kept.
use Rattle.std.proofs.Common.{◌≡◌, ℕ, zero, suc, ◌+◌, Bool, true, false, cond, ◌||◌, Result, Ok, Err, OnOk, List, [], ◌∷◌, ◌++◌, drop, length, map, slice_get, Some, option_map, Contains, refl, sym, ap, ◌∙◌, arith, subst, append-nil, length-append}
use Rattle.std.specs.List.{list_any, filter, flat_map, fold, AllZip}
use Rattle.std.specs.Str.{bytes_eq}
use Rattle.std.proofs.lemmas.Slice.Eq.{bytes_eq-Decides}
use Rattle.std.proofs.lemmas.Option.{slice_get-map}
use Rattle.std.proofs.lemmas.List.Concat.{flat_map-append}
use Rattle.std.proofs.lemmas.List.Sums.{fold-append}
use Rattle.liberty_groups.specs.Groups.{Group, args_of}
use Rattle.liberty_groups.specs.Tables.{Tables, group_at}
use Rattle.liberty_groups.specs.declared.rows.GroupId.{GroupId}
use Rattle.cell_models.specs.declared.cell.Pin.{Pin}
use Rattle.timing_arcs.specs.PinModel.{PinEntry, is_pin_of, entries_of, with_entry, IsPin}
use Rattle.timing_arcs.specs.PinTable.{entry_at, entries_in}
use Rattle.liberty_tables.proofs.Fronts.{some_is, rest_at}

pub entries_push : (tree : Tables) (names : List (List ℕ)) (ids : List GroupId) (name : List ℕ) (id : GroupId) → length names ≡ length ids
    → entries_in tree (names ++ name ∷ []) (ids ++ id ∷ []) ≡ entries_in tree names ids ++ entry_at tree name id ∷ []
unfolding entries_in
entries_push tree [] [] name id even = refl
entries_push tree [] (i ∷ ids) name id even = absurd (omega (arith, even))
entries_push tree (n ∷ names) [] name id even = absurd (omega (arith, even))
entries_push tree (n ∷ names) (i ∷ ids) name id even = ap (λ l. entry_at tree n i ∷ l) (entries_push tree names ids name id (omega (arith, even)))

pub entries_length : (tree : Tables) (names : List (List ℕ)) (ids : List GroupId) → length names ≡ length ids → length (entries_in tree names ids) ≡ length ids
unfolding entries_in
entries_length tree [] [] even = refl
entries_length tree [] (i ∷ ids) even = absurd (omega (arith, even))
entries_length tree (n ∷ names) [] even = absurd (omega (arith, even))
entries_length tree (n ∷ names) (i ∷ ids) even = ap suc (entries_length tree names ids (omega (arith, even)))

pub entry_here : (tree : Tables) (names : List (List ℕ)) (ids : List GroupId) (k : ℕ) (name : List ℕ) (id : GroupId) → slice_get names k ≡ Some name → slice_get ids k ≡ Some id
    → slice_get (entries_in tree names ids) k ≡ Some (entry_at tree name id)
unfolding entries_in
entry_here tree [] ids k name id e f = cc
entry_here tree (n ∷ names) [] k name id e f = cc
entry_here tree (n ∷ names) (i ∷ ids) zero name id e f = ap (λ x. Some (entry_at tree x i)) (some_is n name e) ∙ ap (λ x. Some (entry_at tree name x)) (some_is i id f)
entry_here tree (n ∷ names) (i ∷ ids) (suc k) name id e f = entry_here tree names ids k name id e f

pub names_of_entries : (tree : Tables) (names : List (List ℕ)) (ids : List GroupId) → length names ≡ length ids → map (λ (entry : PinEntry). entry.name) (entries_in tree names ids) ≡ names
unfolding entries_in
names_of_entries tree [] [] even = refl
names_of_entries tree [] (i ∷ ids) even = absurd (omega (arith, even))
names_of_entries tree (n ∷ names) [] even = absurd (omega (arith, even))
names_of_entries tree (n ∷ names) (i ∷ ids) even = ap (λ l. n ∷ l) (names_of_entries tree names ids (omega (arith, even)))

-- ---- whether a name stands

pub held_by_name : (name : List ℕ) (entries : List PinEntry) → list_any (is_pin_of name) entries ≡ list_any (λ other. bytes_eq other name) (map (λ (entry : PinEntry). entry.name) entries)
held_by_name name [] = refl
held_by_name name (entry ∷ entries) = ap (λ b. bytes_eq entry.name name || b) (held_by_name name entries)

pub same_text : (one other : List ℕ) → one ≡ other → bytes_eq one other ≡ true
same_text one other = (bytes_eq-Decides one other).1

pub name_held : (names : List (List ℕ)) (name : List ℕ) (k : ℕ) → slice_get names k ≡ Some name → list_any (λ other. bytes_eq other name) names ≡ true
name_held [] name k e = cc
name_held (n ∷ names) name zero e = ap (λ b. b || list_any (λ other. bytes_eq other name) names) (same_text n name (some_is n name e))
name_held (n ∷ names) name (suc k) e = ap (λ b. bytes_eq n name || b) (name_held names name k e) ∙ either (bytes_eq n name)
  where
    either : (b : Bool) → (b || true) ≡ true
    either true = refl
    either false = refl

pub name_absent : (names : List (List ℕ)) (name : List ℕ) → (Contains names name → ⊥) → list_any (λ other. bytes_eq other name) names ≡ false
name_absent [] name none = refl
name_absent (n ∷ names) name none = by_test (bytes_eq n name) refl ∙ name_absent names name (λ (k, below, is). none (suc k, omega (arith, below), is))
  where
    by_test : (b : Bool) → bytes_eq n name ≡ b → (b || list_any (λ other. bytes_eq other name) names) ≡ list_any (λ other. bytes_eq other name) names
    by_test true e = absurd (none (0, omega arith, (bytes_eq-Decides n name).0 e))
    by_test false e = refl

-- a name that stands adds nothing, and any other goes last
pub kept_entry : (tree : Tables) (names : List (List ℕ)) (ids : List GroupId) (name : List ℕ) (id : GroupId) (k : ℕ) → length names ≡ length ids → slice_get names k ≡ Some name
    → entries_in tree names ids ≡ with_entry (entries_in tree names ids) (entry_at tree name id)
kept_entry tree names ids name id k even e =
    let entries = entries_in tree names ids in
    let held : list_any (is_pin_of name) entries ≡ true = held_by_name name entries ∙ ap (list_any (λ other. bytes_eq other name)) (names_of_entries tree names ids even) ∙ name_held names name k e in
    sym (ap (λ b. cond b entries (entries ++ entry_at tree name id ∷ [])) held)

pub new_entry : (tree : Tables) (names : List (List ℕ)) (ids : List GroupId) (name : List ℕ) (id : GroupId) → length names ≡ length ids → (Contains names name → ⊥)
    → entries_in tree (names ++ name ∷ []) (ids ++ id ∷ []) ≡ with_entry (entries_in tree names ids) (entry_at tree name id)
new_entry tree names ids name id even none =
    let entries = entries_in tree names ids in
    let absent : list_any (is_pin_of name) entries ≡ false = held_by_name name entries ∙ ap (list_any (λ other. bytes_eq other name)) (names_of_entries tree names ids even) ∙ name_absent names name none in
    entries_push tree names ids name id even ∙ sym (ap (λ b. cond b entries (entries ++ entry_at tree name id ∷ [])) absent)

-- ---- the entries of groups, one after another

pub arg_entry : (tree : Tables) (id : GroupId) (k : ℕ) (name : List ℕ) → slice_get (args_of (group_at tree id.0)) k ≡ Some name → slice_get (entries_of (group_at tree id.0)) k ≡ Some (entry_at tree name id)
arg_entry tree id k name e = slice_get-map (λ text. entry_at tree text id) (args_of (group_at tree id.0)) k ∙ ap (option_map (λ text. entry_at tree text id)) e

pub fold_at : {X Y : Type 0} (f : Y → X → Y) (a : Y) (xs : List X) (k : ℕ) (x : X) → slice_get xs k ≡ Some x → fold f a (drop k xs) ≡ fold f (f a x) (drop (k + 1) xs)
fold_at f a xs k x e = ap (fold f a) (rest_at xs k x e)

-- one more group
one_of : {X : Type 0} (p : X → Bool) (x : X) (rest : List X) → filter p (x ∷ rest) ≡ filter p (x ∷ []) ++ filter p rest
one_of p x rest = by_test (p x)
  where
    by_test : (b : Bool) → cond b (x ∷ filter p rest) (filter p rest) ≡ cond b (x ∷ []) [] ++ filter p rest
    by_test true = refl
    by_test false = refl

pub groups_at : {X Y Z : Type 0} (f : Z → Y → Z) (a : Z) (of : X → List Y) (p : X → Bool) (xs : List X) (k : ℕ) (x : X) → slice_get xs k ≡ Some x
    → fold f a (flat_map of (filter p (drop k xs))) ≡ fold f (fold f a (flat_map of (filter p (x ∷ [])))) (flat_map of (filter p (drop (k + 1) xs)))
groups_at f a of p xs k x e =
    ap (λ l. fold f a (flat_map of (filter p l))) (rest_at xs k x e)
    ∙ ap (λ l. fold f a (flat_map of l)) (one_of p x (drop (k + 1) xs))
    ∙ ap (fold f a) (flat_map-append of (filter p (x ∷ [])) (filter p (drop (k + 1) xs)))
    ∙ fold-append f a (flat_map of (filter p (x ∷ []))) (flat_map of (filter p (drop (k + 1) xs)))

pub named_group : {X Y Z : Type 0} (f : Z → Y → Z) (a : Z) (of : X → List Y) (p : X → Bool) (x : X) → p x ≡ true → fold f a (of x) ≡ fold f a (flat_map of (filter p (x ∷ [])))
named_group f a of p x e = ap (fold f a) (sym (append-nil (of x))) ∙ sym (ap (λ b. fold f a (flat_map of (cond b (x ∷ []) []))) e)

pub other_group : {X Y Z : Type 0} (f : Z → Y → Z) (a : Z) (of : X → List Y) (p : X → Bool) (x : X) → p x ≡ false → a ≡ fold f a (flat_map of (filter p (x ∷ [])))
other_group f a of p x e = sym (ap (λ b. fold f a (flat_map of (cond b (x ∷ []) []))) e)

-- ---- what stands after one more name

pub new_on_ok : {T E : Type 0} (r : Result T E) (tree : Tables) (names names' : List (List ℕ)) (ids ids' : List GroupId) (name : List ℕ) (id : GroupId) → length names ≡ length ids → (Contains names name → ⊥)
    → OnOk r (names' ≡ names ++ name ∷ []) → OnOk r (ids' ≡ ids ++ id ∷ []) → OnOk r (entries_in tree names' ids' ≡ with_entry (entries_in tree names ids) (entry_at tree name id))
new_on_ok (Err e) tree names names' ids ids' name id even none n i = search
new_on_ok (Ok v) tree names names' ids ids' name id even none n i = ap (λ x. entries_in tree x ids') n ∙ ap (entries_in tree (names ++ name ∷ [])) i ∙ new_entry tree names ids name id even none

pub even_on_ok : {T E : Type 0} (r : Result T E) (names names' : List (List ℕ)) (ids ids' : List GroupId) (name : List ℕ) (id : GroupId) → length names ≡ length ids
    → OnOk r (names' ≡ names ++ name ∷ []) → OnOk r (ids' ≡ ids ++ id ∷ []) → OnOk r (length names' ≡ length ids')
even_on_ok (Err e) names names' ids ids' name id even n i = search
even_on_ok (Ok v) names names' ids ids' name id even n i = ap length n ∙ length-append names (name ∷ []) ∙ ap (λ k. k + 1) even ∙ sym (length-append ids (id ∷ [])) ∙ sym (ap length i)

-- ---- what an entry says

pub entry_name : (tree : Tables) (names : List (List ℕ)) (ids : List GroupId) (k : ℕ) (entry : PinEntry) → slice_get (entries_in tree names ids) k ≡ Some entry → slice_get names k ≡ Some entry.name
unfolding entries_in
entry_name tree [] ids k entry e = cc
entry_name tree (n ∷ names) [] k entry e = cc
entry_name tree (n ∷ names) (i ∷ ids) zero entry e = ap (λ (x : PinEntry). Some x.name) (some_is (entry_at tree n i) entry e)
entry_name tree (n ∷ names) (i ∷ ids) (suc k) entry e = entry_name tree names ids k entry e

pub entry_group : (tree : Tables) (names : List (List ℕ)) (ids : List GroupId) (k : ℕ) (id : GroupId) (entry : PinEntry) → slice_get (entries_in tree names ids) k ≡ Some entry → slice_get ids k ≡ Some id → group_at tree id.0 ≡ entry.group
unfolding entries_in
entry_group tree [] ids k id entry e f = cc
entry_group tree (n ∷ names) [] k id entry e f = cc
entry_group tree (n ∷ names) (i ∷ ids) zero id entry e f = ap (λ (x : GroupId). group_at tree x.0) (sym (some_is i id f)) ∙ ap (λ (x : PinEntry). x.group) (some_is (entry_at tree n i) entry e)
entry_group tree (n ∷ names) (i ∷ ids) (suc k) id entry e f = entry_group tree names ids k id entry e f

pub entry_pin : (library : Group) (entries : List PinEntry) (pins : List Pin) (k : ℕ) (entry : PinEntry) (pin : Pin) → AllZip (IsPin library) entries pins → slice_get entries k ≡ Some entry → slice_get pins k ≡ Some pin
    → IsPin library entry pin
entry_pin library [] pins k entry pin all e f = cc
entry_pin library (x ∷ entries) [] k entry pin all e f = cc
entry_pin library (x ∷ entries) (p ∷ pins) zero entry pin all e f =
    subst (λ y. IsPin library y pin) (some_is x entry e) (subst (λ y. IsPin library x y) (some_is p pin f) all.0)
entry_pin library (x ∷ entries) (p ∷ pins) (suc k) entry pin all e f = entry_pin library entries pins k entry pin all.1 e f
