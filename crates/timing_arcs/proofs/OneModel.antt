-- A cell of a library has one model.
use Rattle.std.proofs.Common.{◌≡◌, inl, inr, ℕ, zero, suc, Bool, true, false, true≢false, cond, ◌⊎◌, List, [], ◌∷◌, ◌++◌, length, Option, Some, ℤ, pos, Ok, refl, sym, ap, ◌∙◌, arith, subst}
use Rattle.std.specs.Prelude.{slice_get, codes}
use Rattle.std.specs.List.{list_any, fold, flat_map, AllZip}
use Rattle.std.specs.Str.{bytes_eq}
use Rattle.std.proofs.lemmas.Int.{ints}
use Rattle.std.proofs.lemmas.List.{map-append}
use Rattle.delay_units.specs.declared.numbers.Unit.{Unit}
use Rattle.delay_units.proofs.ReadingLemmas.{one_text_reading}
use Rattle.edge_io.specs.Zipping.{one_zip}
use Rattle.liberty_groups.specs.Groups.{Group}
use Rattle.cell_models.specs.declared.cell.Arc.{Arc}
use Rattle.cell_models.specs.declared.cell.Direction.{Direction}
use Rattle.cell_models.specs.declared.cell.Direction.TheVariants.{Input, Output, Inout, Internal}
use Rattle.cell_models.specs.declared.cell.EdgeTables.{EdgeTables}
use Rattle.cell_models.specs.declared.cell.Pin.{Pin}
use Rattle.liberty_tables.specs.declared.library_units.LibraryUnits.{LibraryUnits}
use Rattle.timing_arcs.specs.CellModel.{names_of}
use Rattle.cell_models.specs.Cells.{TimedCell}
use Rattle.timing_arcs.specs.DelayGroups.{ArcEntry, arcs_of, AreEdgeTables, no_edge, edge, IsArc}
use Rattle.liberty_tables.specs.Library.{first_group, groups_named}
use Rattle.timing_arcs.specs.OneAnswer.{OneModel}
use Rattle.timing_arcs.specs.PinModel.{PinEntry, is_pin_of, with_entry, entries_of, pins_of, capacitance_texts, IsLargest, no_text, one_text, first_text, second_text, IsCapacitance, IsPinCapacitance, IsPin}
use Rattle.timing_arcs.specs.DelayTables.{delay_names}
use Rattle.liberty_tables.specs.TableModel.{TableMeans, TransitionMeans}
use Rattle.liberty_tables.proofs.Fronts.{some_is}
use Rattle.liberty_tables.proofs.OneTable.{one_made, one_transition_made}
use Rattle.liberty_tables.proofs.OneUnits.{one_load, one_pair}
use Rattle.timing_arcs.proofs.PinLemmas.{held_by_name, name_held}

-- ---- the names of a cell's pins: each stands at one place

abbrev Once : List (List ℕ) → Type 0
Once names = (one other : ℕ) (name : List ℕ) → slice_get names one ≡ Some name → slice_get names other ≡ Some name → one ≡ other

at_end : (names : List (List ℕ)) (last name : List ℕ) (place : ℕ) → slice_get (names ++ last ∷ []) place ≡ Some name → (slice_get names place ≡ Some name) ⊎ ((place ≡ length names) × (last ≡ name))
at_end [] last name zero e = inr (refl, some_is last name e)
at_end [] last name (suc place) e = cc
at_end (first ∷ names) last name zero e = inl e
at_end (first ∷ names) last name (suc place) e = elim (at_end names last name place e) [
  | inl here ↦ inl here
  | inr (end, same) ↦ inr (ap suc end, same)
]

not_held : (names : List (List ℕ)) (last name : List ℕ) (place : ℕ) → list_any (λ other. bytes_eq other last) names ≡ false → slice_get names place ≡ Some name → last ≡ name → ⊥
not_held names last name place none here same =
    true≢false (sym (name_held names last place (here ∙ ap Some (sym same))) ∙ none)

once_more : (names : List (List ℕ)) (last : List ℕ) → Once names → list_any (λ other. bytes_eq other last) names ≡ false → Once (names ++ last ∷ [])
once_more names last once none one other name e f = elim (at_end names last name one e) [
  | inl here ↦ elim (at_end names last name other f) [
    | inl there ↦ once one other name here there
    | inr (end, same) ↦ absurd (not_held names last name one none here same)
  ]
  | inr (end, same) ↦ elim (at_end names last name other f) [
    | inl there ↦ absurd (not_held names last name other none there same)
    | inr (also, equal) ↦ end ∙ sym also
  ]
]

once_with : (entries : List PinEntry) (entry : PinEntry) → Once (names_of entries) → Once (names_of (with_entry entries entry))
once_with entries entry once = by (list_any (is_pin_of entry.name) entries) refl
  where
    by : (held : Bool) → list_any (is_pin_of entry.name) entries ≡ held → Once (names_of (cond held entries (entries ++ entry ∷ [])))
    by true e = once
    by false e =
        subst Once (sym (map-append (λ (other : PinEntry). other.name) entries (entry ∷ [])))
        (once_more (names_of entries) entry.name once (sym (held_by_name entry.name entries) ∙ e))

once_all : (entries more : List PinEntry) → Once (names_of entries) → Once (names_of (fold with_entry entries more))
once_all entries [] once = once
once_all entries (entry ∷ more) once = once_all (with_entry entries entry) more (once_with entries entry once)

pins_once : (cell : Group) → Once (names_of (pins_of cell))
unfolding pins_of
pins_once cell = once_all [] (flat_map entries_of (groups_named (codes "pin") cell)) (λ one other name e f. cc)

-- ---- pins

one_largest : (unit : Unit) (texts : List (List ℕ)) (v w : ℤ) → IsLargest unit texts v → IsLargest unit texts w → v ≡ w
one_largest unit _ _ _ no_text no_text = refl
one_largest unit _ v w (one_text {text = text} r) (one_text s) = one_text_reading unit text v w r s
one_largest unit _ v w (first_text {text = text} r a least) (first_text s b small) = one_text_reading unit text v w r s
one_largest unit _ v w (first_text {text = text} {other = other} {w = u} r a least) (second_text {v = x} s b small) =
    let first : v ≡ x = one_text_reading unit text v x r s in
    let second : u ≡ w = one_text_reading unit other u w a b in
    omega (arith, ints, first, second, least, small)
one_largest unit _ v w (second_text {text = text} {other = other} {v = x} r a least) (first_text {w = u} s b small) =
    let first : x ≡ w = one_text_reading unit text x w r s in
    let second : v ≡ u = one_text_reading unit other v u a b in
    omega (arith, ints, first, second, least, small)
one_largest unit _ v w (second_text {other = other} r a least) (second_text s b small) = one_text_reading unit other v w a b

pos_same : (a b : ℕ) → pos a ≡ pos b → a ≡ b
pos_same a b e = omega (arith, ints, e)

one_capacitance : (direction : Direction) (library pin : Group) (one other : ℕ) → IsPinCapacitance direction library pin one → IsPinCapacitance direction library pin other → one ≡ other
one_capacitance Input library pin one other r s =
    let given : IsCapacitance r.unit (capacitance_texts library pin) other =
    subst (λ (u : Unit). IsCapacitance u (capacitance_texts library pin) other) (one_load library s.unit r.unit s.of_library r.of_library) s.given in
    pos_same one other (one_largest r.unit (capacitance_texts library pin) (pos one) (pos other) r.given.largest given.largest)
one_capacitance Output library pin one other r s = r ∙ sym s
one_capacitance Inout library pin one other r s = r ∙ sym s
one_capacitance Internal library pin one other r s = r ∙ sym s

same_pin : (one other : Pin) → one.name ≡ other.name → one.direction ≡ other.direction → one.cap.0 ≡ other.cap.0 → one ≡ other
same_pin one other name direction cap = λ i. record { name = name i; direction = direction i; cap = record { 0 = cap i } }

one_pin : (library : Group) (entry : PinEntry) (one other : Pin) → IsPin library entry one → IsPin library entry other → one ≡ other
one_pin library entry one other r s =
    let direction : one.direction ≡ other.direction = some_is one.direction other.direction (sym r.direction ∙ s.direction) in
    let capacitance : IsPinCapacitance other.direction library entry.group one.cap.0 =
    subst (λ (d : Direction). IsPinCapacitance d library entry.group one.cap.0) direction r.capacitance in
    same_pin one other (r.name ∙ sym s.name) direction (one_capacitance other.direction library entry.group one.cap.0 other.cap.0 capacitance s.capacitance)

-- ---- arcs

same_tables : (one other : EdgeTables) → one.delay ≡ other.delay → one.slew ≡ other.slew → one ≡ other
same_tables one other delay slew = λ i. record { delay = delay i; slew = slew i }

one_tables : (library : Group) (delay slew : Option Group) (one other : Option EdgeTables) → AreEdgeTables library delay slew one → AreEdgeTables library delay slew other → one ≡ other
one_tables library _ _ _ _ no_edge no_edge = refl
one_tables library _ _ _ _ (edge {delay = d} {slew = s} {tables = t} {units = u} known means shows) (edge {tables = more} {units = w} others also says) =
    let units : w ≡ u = one_pair library w u others known in
    ap Some
    (same_tables t more
    (one_made delay_names library d u t.delay more.delay means (subst (λ (x : LibraryUnits). TableMeans delay_names library d x (Ok more.delay)) units also))
    (one_transition_made delay_names library s u t.slew more.slew shows (subst (λ (x : LibraryUnits). TransitionMeans delay_names library s x (Ok more.slew)) units says)))

same_arc : (one other : Arc) → one.from ≡ other.from → one.to ≡ other.to → one.kind ≡ other.kind → one.rise ≡ other.rise → one.fall ≡ other.fall → one ≡ other
same_arc one other from to kind rise fall = λ i. record { from = from i; to = to i; kind = kind i; rise = rise i; fall = fall i }

one_arc : (library : Group) (names : List (List ℕ)) → Once names → (entry : ArcEntry) (one other : Arc) → IsArc library names entry one → IsArc library names entry other → one ≡ other
one_arc library names once entry one other r s =
    same_arc one other
    (once one.from other.from entry.from r.from s.from)
    (once one.to other.to entry.to r.to s.to)
    (r.kind ∙ sym s.kind)
    (one_tables library (first_group (codes "cell_rise") entry.group) (first_group (codes "rise_transition") entry.group) one.rise other.rise r.rise s.rise)
    (one_tables library (first_group (codes "cell_fall") entry.group) (first_group (codes "fall_transition") entry.group) one.fall other.fall r.fall s.fall)

-- ---- the model

same_cell : (one other : TimedCell) → one.pins ≡ other.pins → one.arcs ≡ other.arcs → one ≡ other
same_cell one other pins arcs = λ i. record { pins = pins i; arcs = arcs i }

abbrev HasParts : Group → Group → TimedCell → Type 0
HasParts library cell model = AllZip (IsPin library) (pins_of cell) model.pins × AllZip (IsArc library (names_of (pins_of cell))) (arcs_of cell) model.arcs

one_of_group : (library cell : Group) (one other : TimedCell) → HasParts library cell one → HasParts library cell other → one ≡ other
one_of_group library cell one other r s =
    same_cell one other
    (one_zip (IsPin library) (one_pin library) (pins_of cell) one.pins other.pins r.0 s.0)
    (one_zip (IsArc library (names_of (pins_of cell))) (one_arc library (names_of (pins_of cell)) (pins_once cell)) (arcs_of cell) one.arcs other.arcs r.1 s.1)

pub one_model_lem : OneModel
one_model_lem library name one other r s =
    let same : s.group ≡ r.group = some_is s.group r.group (sym s.found ∙ r.found) in
    one_of_group library r.group one other (r.pins, r.arcs) (subst (λ (g : Group). HasParts library g other) same (s.pins, s.arcs))
