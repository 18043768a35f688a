-- What every timing model keeps: distinct names, and arcs from an input pin to an output pin with an edge.
use Rattle.std.proofs.Common.{◌≡◌, ◌≢◌, ℕ, zero, suc, ◌⊎◌, inl, inr, Bool, true, false, ◌&&◌, ◌||◌, if◌then◌else◌, List, [], ◌∷◌, ◌++◌, map, length, Option, Some, None, Ok, IfSome, is_some, All, AllPairs, pos, ◌≤ℤ◌, refl, sym, ap, ◌∙◌, subst, true≢false, codes}
use Rattle.std.specs.Prelude.{⊤}
use Rattle.std.specs.List.{slice_get, filter, flat_map, list_any, AllZip}
use Rattle.std.proofs.lemmas.List.Elements.{All-nil, All-cons}
use Rattle.nldm_lookup.specs.Tables.{TimingTable}
use Rattle.liberty_groups.specs.Groups.{Group, groups_of}
use Rattle.liberty_groups.specs.Tables.{Tables}
use Rattle.liberty_groups.specs.declared.rows.GroupId.{GroupId}
use Rattle.liberty_tables.specs.declared.library_units.LibraryUnits.{LibraryUnits}
use Rattle.cell_models.specs.declared.cell.Direction.{Direction}
use Rattle.cell_models.specs.declared.cell.Direction.TheVariants.{Input, Output, Inout, Internal}
use Rattle.cell_models.specs.declared.cell.Pin.{Pin}
use Rattle.cell_models.specs.declared.cell.EdgeTables.{EdgeTables}
use Rattle.cell_models.specs.declared.cell.Arc.{Arc}
use Rattle.cell_models.specs.Cells.{HasDirection, IsSettled, IsArcOf, IsCell}
use Rattle.liberty_tables.specs.Library.{is_named, first_group, value_in}
use Rattle.timing_arcs.specs.PinModel.{PinEntry, is_pin_of, is_input, is_output, direction_of, IsPin}
use Rattle.timing_arcs.specs.PinTable.{entries_in}
use Rattle.timing_arcs.specs.DelayTables.{delay_names}
use Rattle.liberty_tables.specs.TableModel.{TransitionMeans, settled}
use Rattle.timing_arcs.specs.DelayGroups.{DelayGroup, is_delay_type, is_delay_group, delays_in, related_names, is_input_in, ArcEntry, arcs_in, AreEdgeTables, no_edge, edge, IsArc}
use Rattle.timing_arcs.specs.BuiltParts.{AreArcsOf}
use Rattle.liberty_tables.proofs.Fronts.{some_is}
use Rattle.timing_arcs.proofs.PinLemmas.{names_of_entries, same_text}
use Rattle.timing_arcs.proofs.PlaceLemmas.{way_in, place_is, pin_below, got_below}

-- ---- a fact of every entry

abbrev Every : {X : Type 0} → (X → Type 0) → List X → Type 0
Every P [] = ⊤
Every P (x ∷ xs) = P x × Every P xs

every_append : {X : Type 0} (P : X → Type 0) (xs ys : List X) → Every P xs → Every P ys → Every P (xs ++ ys)
every_append P [] ys every also = also
every_append P (x ∷ xs) ys every also = (every.0, every_append P xs ys every.1 also)

every_flat : {X Y : Type 0} (Q : X → Type 0) (P : Y → Type 0) (f : X → List Y) → ((x : X) → Q x → Every P (f x)) → (xs : List X) → Every Q xs → Every P (flat_map f xs)
every_flat Q P f each [] every = tt
every_flat Q P f each (x ∷ xs) every = every_append P (f x) (flat_map f xs) (each x every.0) (every_flat Q P f each xs every.1)

every_kept : {X Y : Type 0} (P : Y → Type 0) (mk : X → Y) (test : X → Bool) → ((x : X) → test x ≡ true → P (mk x)) → (xs : List X) → Every P (map mk (filter test xs))
every_kept P mk test each [] = tt
every_kept P mk test each (x ∷ xs) = by_test (test x) refl (every_kept P mk test each xs)
  where
    by_test : (b : Bool) → test x ≡ b → Every P (map mk (filter test xs)) → Every P (map mk (if b then x ∷ filter test xs else filter test xs))
    by_test true e rest = (each x e, rest)
    by_test false e rest = rest

every_at : {X : Type 0} (P : X → Type 0) (xs : List X) → ((k : ℕ) (x : X) → slice_get xs k ≡ Some x → P x) → Every P xs
every_at P [] each = tt
every_at P (x ∷ xs) each = (each 0 x refl, every_at P xs (λ k. each (suc k)))

any_at : {X : Type 0} (test : X → Bool) (xs : List X) (k : ℕ) (x : X) → slice_get xs k ≡ Some x → test x ≡ true → list_any test xs ≡ true
any_at test [] k x e passes = cc
any_at test (y ∷ xs) zero x e passes = ap (λ b. b || list_any test xs) (ap test (some_is y x e) ∙ passes)
any_at test (y ∷ xs) (suc k) x e passes = ap (λ b. test y || b) (any_at test xs k x e passes) ∙ or_true (test y)
  where
    or_true : (b : Bool) → (b || true) ≡ true
    or_true true = refl
    or_true false = refl

-- ---- the entries of arcs

record IsArcEntry (pins : List PinEntry) (entry : ArcEntry) : Type 0 where
  from_input : way_in is_input pins entry.from ≡ true
  to_output : way_in is_output pins entry.to ≡ true
  delayed : is_delay_group entry.group ≡ true

record IsDelay (pins : List PinEntry) (delay : DelayGroup) : Type 0 where
  to_output : way_in is_output pins delay.to ≡ true
  delayed : is_delay_group delay.group ≡ true

output_here : (pins : List PinEntry) (k : ℕ) (entry : PinEntry) → slice_get pins k ≡ Some entry → is_output (direction_of entry.group) ≡ true → way_in is_output pins entry.name ≡ true
output_here pins k entry e out = any_at (λ (other : PinEntry). is_pin_of entry.name other && is_output (direction_of other.group)) pins k entry e
    (ap (λ b. b && is_output (direction_of entry.group)) (same_text entry.name entry.name refl) ∙ out)

delays_are : (pins : List PinEntry) → Every (IsDelay pins) (flat_map delays_in pins)
delays_are pins = every_flat (λ (entry : PinEntry). is_output (direction_of entry.group) ≡ true → way_in is_output pins entry.name ≡ true) (IsDelay pins) delays_in
    (λ entry out. by_test entry (is_output (direction_of entry.group)) refl out) pins
    (every_at (λ (entry : PinEntry). is_output (direction_of entry.group) ≡ true → way_in is_output pins entry.name ≡ true) pins (λ k entry e. output_here pins k entry e))
  where
    by_test : (entry : PinEntry) (b : Bool) → is_output (direction_of entry.group) ≡ b → (is_output (direction_of entry.group) ≡ true → way_in is_output pins entry.name ≡ true)
        → Every (IsDelay pins) (if b then map (λ timing. record { to = entry.name; group = timing }) (filter is_delay_group (groups_of entry.group)) else [])
    by_test entry true e out = every_kept (IsDelay pins) (λ timing. record { to = entry.name; group = timing }) is_delay_group (λ timing is. record { to_output = out e; delayed = is }) (groups_of entry.group)
    by_test entry false e out = tt

entries_are : (pins : List PinEntry) → Every (IsArcEntry pins) (flat_map (arcs_in pins) (flat_map delays_in pins))
entries_are pins = every_flat (IsDelay pins) (IsArcEntry pins) (arcs_in pins)
    (λ delay is. every_kept (IsArcEntry pins) (λ name. record { from = name; to = delay.to; group = delay.group }) (is_input_in pins) (λ name input. record { from_input = input; to_output = is.to_output; delayed = is.delayed }) (related_names delay.group))
    (flat_map delays_in pins) (delays_are pins)

-- ---- one arc

input_is : (way : Direction) → is_input (Some way) ≡ true → way ≡ Input
input_is Input e = refl
input_is Output e = absurd (true≢false (sym e))
input_is Inout e = absurd (true≢false (sym e))
input_is Internal e = absurd (true≢false (sym e))

output_is : (way : Direction) → is_output (Some way) ≡ true → way ≡ Output
output_is Output e = refl
output_is Input e = absurd (true≢false (sym e))
output_is Inout e = absurd (true≢false (sym e))
output_is Internal e = absurd (true≢false (sym e))

and_right : (a b : Bool) → (a && b) ≡ true → b ≡ true
and_right true b e = e
and_right false b e = absurd (true≢false (sym e))

or_cases : (a b : Bool) → (a || b) ≡ true → (a ≡ true) ⊎ (b ≡ true)
or_cases true b e = inl refl
or_cases false b e = inr e

some_table : (library : Group) (delay slew : Option Group) (tables : Option EdgeTables) → AreEdgeTables library delay slew tables → is_some delay ≡ true → tables ≢ None
some_table library delay slew tables no_edge e = absurd (true≢false (sym e))
some_table library delay slew tables (edge known one two) e = λ none. cc

settled_by : (library slew : Group) (units : LibraryUnits) (table : TimingTable) → TransitionMeans delay_names library slew units (Ok table) → All (λ value. pos 0 ≤ℤ value) table.values
settled_by library slew units table (settled made means are) = are

settled_tables : (library : Group) (delay slew : Option Group) (tables : Option EdgeTables) → AreEdgeTables library delay slew tables → IfSome tables IsSettled
settled_tables library delay slew tables no_edge = tt
settled_tables library delay slew tables (edge {slew = group_of_slew} {tables = made} {units = units} known one two) = settled_by library group_of_slew units made.slew two

has_edge : (library timing : Group) (rise fall : Option EdgeTables) → is_delay_group timing ≡ true → AreEdgeTables library (first_group (codes "cell_rise") timing) (first_group (codes "rise_transition") timing) rise
    → AreEdgeTables library (first_group (codes "cell_fall") timing) (first_group (codes "fall_transition") timing) fall → (rise ≢ None) ⊎ (fall ≢ None)
unfolding is_delay_group
has_edge library timing rise fall is up down = by_case (or_cases (is_some (first_group (codes "cell_rise") timing)) (is_some (first_group (codes "cell_fall") timing))
    (and_right (is_delay_type (value_in (codes "timing_type") timing)) (is_some (first_group (codes "cell_rise") timing) || is_some (first_group (codes "cell_fall") timing))
    (and_right (is_named (codes "timing") timing) (is_delay_type (value_in (codes "timing_type") timing) && (is_some (first_group (codes "cell_rise") timing) || is_some (first_group (codes "cell_fall") timing))) is)))
  where
    by_case : (is_some (first_group (codes "cell_rise") timing) ≡ true) ⊎ (is_some (first_group (codes "cell_fall") timing) ≡ true) → (rise ≢ None) ⊎ (fall ≢ None)
    by_case (inl e) = inl (some_table library (first_group (codes "cell_rise") timing) (first_group (codes "rise_transition") timing) rise up e)
    by_case (inr e) = inr (some_table library (first_group (codes "cell_fall") timing) (first_group (codes "fall_transition") timing) fall down e)

module _ (library : Group) (tree : Tables) (names : List (List ℕ)) (ids : List GroupId) (pins : List Pin) (even : length names ≡ length ids) (apart : AllPairs (λ one other. one ≢ other) names) (built : AllZip (IsPin library) (entries_in tree names ids) pins) where
  pins_at : (test : Option Direction → Bool) (way : Direction) → ((d : Direction) → test (Some d) ≡ true → d ≡ way) → (name : List ℕ) (place : ℕ) → slice_get names place ≡ Some name → way_in test (entries_in tree names ids) name ≡ true
      → HasDirection pins place way
  pins_at test way decides name place here passes =
      let pin = got_below pins place (pin_below library tree names ids pins name place even built here) in
      record { pin = pin.0; here = pin.1; directed = decides pin.0.direction (sym (place_is test library tree names ids pins name place pin.0 apart even built here pin.1) ∙ passes) }

  one_arc : (entry : ArcEntry) (arc : Arc) → IsArcEntry (entries_in tree names ids) entry → IsArc library names entry arc → IsArcOf pins arc
  one_arc entry arc is made = record {
    from = pins_at is_input Input input_is entry.from arc.from made.from is.from_input;
    to = pins_at is_output Output output_is entry.to arc.to made.to is.to_output;
    some = has_edge library entry.group arc.rise arc.fall is.delayed made.rise made.fall;
    rise = settled_tables library (first_group (codes "cell_rise") entry.group) (first_group (codes "rise_transition") entry.group) arc.rise made.rise;
    fall = settled_tables library (first_group (codes "cell_fall") entry.group) (first_group (codes "fall_transition") entry.group) arc.fall made.fall;
  }

  every_arc : (entries : List ArcEntry) (arcs : List Arc) → Every (IsArcEntry (entries_in tree names ids)) entries → AllZip (IsArc library names) entries arcs → All (IsArcOf pins) arcs
  every_arc [] [] every made = All-nil (IsArcOf pins)
  every_arc [] (arc ∷ arcs) every made = absurd made
  every_arc (entry ∷ entries) [] every made = absurd made
  every_arc (entry ∷ entries) (arc ∷ arcs) every made = All-cons (IsArcOf pins) arc arcs (one_arc entry arc every.0 made.0) (every_arc entries arcs every.1 made.1)

  pin_names : (entries : List PinEntry) (those : List Pin) → AllZip (IsPin library) entries those → map (λ (entry : PinEntry). entry.name) entries ≡ map (λ (pin : Pin). pin.name) those
  pin_names [] [] all = refl
  pin_names [] (pin ∷ those) all = absurd all
  pin_names (entry ∷ entries) [] all = absurd all
  pin_names (entry ∷ entries) (pin ∷ those) all = let is = all.0 in ap (λ n. n ∷ map (λ (e : PinEntry). e.name) entries) (sym is.name) ∙ ap (λ l. pin.name ∷ l) (pin_names entries those all.1)

  pub cell_kept : (arcs : List Arc) → AreArcsOf library names (entries_in tree names ids) arcs → IsCell (record { pins = pins; arcs = arcs })
  cell_kept arcs are = record {
    distinct = subst (λ l. AllPairs (λ one other. one ≢ other) l) (sym (names_of_entries tree names ids even) ∙ pin_names (entries_in tree names ids) pins built) apart;
    arcs = every_arc (flat_map (arcs_in (entries_in tree names ids)) (flat_map delays_in (entries_in tree names ids))) arcs (entries_are (entries_in tree names ids)) are.built;
  }
