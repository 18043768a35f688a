-- The pins of cells: their names, which are the same at each corner and differ in each cell, and their capacitances.
use Rattle.std.proofs.Common.{◌≡◌, ℕ, ◌≤◌, List, [], ◌∷◌, length, map, get_or, slice_get, Option, Some, None, refl, sym, ap, subst, ◌∙◌, arith, inl, inr}
use Rattle.std.specs.Prelude.{All, option_map}
use Rattle.std.specs.Option.{option_map_or}
use Rattle.std.proofs.lemmas.Bool.{cases_lt}
use Rattle.std.proofs.lemmas.List.{get_or-map, length-map, get_or_past}
use Rattle.std.proofs.lemmas.List.Elements.{All-get_or, All-head}
use Rattle.std.proofs.lemmas.Option.{slice_get_within, get_or_from_slice_get, slice_get-map}
use Rattle.delay_units.specs.Bounds.{most_farads}
use Rattle.name_table.specs.Names.{AreDistinct}
use Rattle.cell_models.specs.Cells.{TimedCell, IsCell}
use Rattle.cell_models.specs.CornerCells.{pins_at, AreCornerCells}
use Rattle.cell_models.specs.NamedSets.{NamedCells, set_cells}
use Rattle.cell_models.specs.Shapes.{pin_entry, shape_of}
use Rattle.cell_models.specs.SameShapes.{same_pins}
use Rattle.cell_models.specs.declared.cell.Pin.{Pin}
use Rattle.cell_models.specs.declared.shape.Entry.{Entry}
use Rattle.cell_models.specs.declared.shape.Entry.TheVariants as entry
use Rattle.cell_models.proofs.CornerLemmas.{shape_there, at_place}
use Rattle.net_parasitics.specs.Inputs.{HaveSmallPins}
use Rattle.net_parasitics.specs.NetPins.{cell_pins, no_pin}

-- the pins of a cell are those of its models
pub pins_of_models : (cells : List NamedCells) (corner cell : ℕ) (models : List TimedCell) → slice_get (set_cells cells) cell ≡ Some models
    → cell_pins cells corner cell ≡ pins_at models corner
pins_of_models cells corner cell models there = ap (λ found. option_map_or (λ m. pins_at m corner) found []) there

pub pin_is : (cells : List NamedCells) (corner cell i : ℕ) (models : List TimedCell) (pin : Pin) → slice_get (set_cells cells) cell ≡ Some models
    → slice_get (pins_at models corner) i ≡ Some pin → pin ≡ get_or (cell_pins cells corner cell) i no_pin
pin_is cells corner cell i models pin there at =
    sym (ap (λ pins. get_or pins i no_pin) (pins_of_models cells corner cell models there) ∙ get_or_from_slice_get (pins_at models corner) i pin no_pin at)

pub pin_is_first : (cells : List NamedCells) (cell i : ℕ) (models : List TimedCell) → slice_get (set_cells cells) cell ≡ Some models
    → get_or (cell_pins cells 0 cell) i no_pin ≡ get_or (pins_at models 0) i no_pin
pin_is_first cells cell i models there = ap (λ pins. get_or pins i no_pin) (pins_of_models cells 0 cell models there)

pub names_differ : (cells : List NamedCells) (count cell : ℕ) (models : List TimedCell) → slice_get (set_cells cells) cell ≡ Some models → AreCornerCells count models
    → AreDistinct (map (λ (pin : Pin). pin.name) (cell_pins cells 0 cell))
names_differ cells count cell models there whole =
    subst (λ pins. AreDistinct (map (λ (pin : Pin). pin.name) pins)) (sym (pins_of_models cells 0 cell models there)) (by models whole)
  where
    by : (models : List TimedCell) → AreCornerCells count models → AreDistinct (map (λ (pin : Pin). pin.name) (pins_at models 0))
    by [] whole = λ i j d less below. absurd (omega (arith, below))
    by (first ∷ models) whole = (All-head IsCell first models whole.whole).distinct

abbrev name_in : Entry → List ℕ
name_in (entry.Pin name direction) = name
name_in (entry.Arc from to kind rise fall) = []

name_there : (first cell : TimedCell) (i : ℕ) (pin : Pin) → shape_of cell ≡ shape_of first → slice_get cell.pins i ≡ Some pin → pin.name ≡ (get_or first.pins i no_pin).name
name_there first cell i pin shaped at =
    let same = same_pins cell first shaped in
    let within = slice_get_within cell.pins i pin at in
    let lengths : length cell.pins ≡ length first.pins = sym (length-map cell.pins pin_entry) ∙ ap length same ∙ length-map first.pins pin_entry in
    let entries : pin_entry pin ≡ pin_entry (get_or first.pins i no_pin) =
    ap pin_entry (sym (get_or_from_slice_get cell.pins i pin no_pin at))
    ∙ sym (get_or-map pin_entry cell.pins i no_pin (pin_entry no_pin) within)
    ∙ ap (λ entries. get_or entries i (pin_entry no_pin)) same
    ∙ get_or-map pin_entry first.pins i no_pin (pin_entry no_pin) (omega (arith, within, lengths)) in
    ap name_in entries

-- a pin has one name at all corners
pub same_name : (models : List TimedCell) (count corner i : ℕ) (pin : Pin) → AreCornerCells count models → slice_get (pins_at models corner) i ≡ Some pin
    → pin.name ≡ (get_or (pins_at models 0) i no_pin).name
same_name [] count corner i pin whole at = cc
same_name (first ∷ models) count corner i pin whole at = by (slice_get (first ∷ models) corner) refl at
  where
    by : (found : Option TimedCell) → slice_get (first ∷ models) corner ≡ found → slice_get (option_map_or (λ (c : TimedCell). c.pins) found []) i ≡ Some pin
        → pin.name ≡ (get_or first.pins i no_pin).name
    by None here at = cc
    by (Some cell) here at = name_there first cell i pin (shape_there (first ∷ models) corner cell here whole.shaped) at

-- a pin is no heavier than any
pub small_pin : (cells : List NamedCells) (corner cell i : ℕ) → HaveSmallPins cells → (get_or (cell_pins cells corner cell) i no_pin).cap.0 ≤ most_farads
small_pin cells corner cell i small = by (slice_get (set_cells cells) cell) refl
  where
    pin_in : (pins : List Pin) → All (λ (pin : Pin). pin.cap.0 ≤ most_farads) pins → (get_or pins i no_pin).cap.0 ≤ most_farads
    pin_in pins all = elim (cases_lt i (length pins)) [
      | inl below ↦ All-get_or (λ (pin : Pin). pin.cap.0 ≤ most_farads) pins i no_pin below all
      | inr past ↦ subst (λ (pin : Pin). pin.cap.0 ≤ most_farads) (sym (get_or_past pins i no_pin past)) (omega arith)
    ]

    in_cell : (models : List TimedCell) → All (λ (c : TimedCell). All (λ (pin : Pin). pin.cap.0 ≤ most_farads) c.pins) models → (found : Option TimedCell)
        → slice_get models corner ≡ found → (get_or (option_map_or (λ (c : TimedCell). c.pins) found []) i no_pin).cap.0 ≤ most_farads
    in_cell models all None at = omega arith
    in_cell models all (Some c) at = pin_in c.pins (at_place (λ (c : TimedCell). All (λ (pin : Pin). pin.cap.0 ≤ most_farads) c.pins) models corner c at all)

    -- the cells of a set are among those of all
    all_cells : slice_get (set_cells cells) cell ≡ option_map (λ (set : NamedCells). set.cells) (slice_get cells cell) → (models : List TimedCell)
        → slice_get (set_cells cells) cell ≡ Some models → All (λ (c : TimedCell). All (λ (pin : Pin). pin.cap.0 ≤ most_farads) c.pins) models
    all_cells same models at = of (slice_get cells cell) refl (sym same ∙ at)
      where
        of : (set : Option NamedCells) → slice_get cells cell ≡ set → option_map (λ (set : NamedCells). set.cells) set ≡ Some models
            → All (λ (c : TimedCell). All (λ (pin : Pin). pin.cap.0 ≤ most_farads) c.pins) models
        of None here is = cc
        of (Some set) here is =
            let cells_are : set.cells ≡ models = cc in
            subst (All (λ (c : TimedCell). All (λ (pin : Pin). pin.cap.0 ≤ most_farads) c.pins)) cells_are
            (at_place (λ (set : NamedCells). All (λ (c : TimedCell). All (λ (pin : Pin). pin.cap.0 ≤ most_farads) c.pins) set.cells) cells cell set here small)

    by : (found : Option (List TimedCell)) → slice_get (set_cells cells) cell ≡ found
        → (get_or (option_map_or (λ m. pins_at m corner) found []) i no_pin).cap.0 ≤ most_farads
    by None at = omega arith
    by (Some models) at = in_cell models (all_cells (slice_get-map (λ (set : NamedCells). set.cells) cells cell) models at) (slice_get models corner) refl
