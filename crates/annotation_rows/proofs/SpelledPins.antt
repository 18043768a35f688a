-- The pins of cells as SDF spells them, by one pin or one cell more.
use Rattle.std.proofs.Common.{◌≡◌, ℕ, zero, suc, ◌+◌, ◌<◌, ◌≤◌, List, [], ◌∷◌, ◌++◌, length, map, take, get_or, Some, refl, sym, ap, ◌∙◌, arith}
use Rattle.std.specs.Prelude.{slice_get}
use Rattle.std.specs.Option.{option_map_or}
use Rattle.std.proofs.lemmas.List.{take_all, take_more, map-append, length-map, get_or-map}
use Rattle.std.proofs.lemmas.Option.{get_or_from_slice_get, slice_get-get_or, slice_get_within}
use Rattle.cell_models.specs.CornerCells.{pins_at}
use Rattle.cell_models.specs.NamedSets.{NamedCells, set_cells}
use Rattle.cell_models.specs.declared.cell.Pin.{Pin}
use Rattle.name_table.specs.SdfNames.{part}
use Rattle.netlist_link.specs.FlatPins.{pins_of}
use Rattle.annotation_rows.specs.SdfEnds.{pin_part, spelled_pins}

-- what is made of each item so far, and of one more
pub more_made : {X Y : Type 0} (f : X → Y) (xs : List X) (n : ℕ) (x : X) (before after : List Y) → before ≡ map f (take n xs) → slice_get xs n ≡ Some x
    → after ≡ before ++ f x ∷ [] → after ≡ map f (take (n + 1) xs)
more_made f xs n x before after so_far here is =
    is ∙ ap (λ l. l ++ f x ∷ []) so_far ∙ sym (map-append f (take n xs) (x ∷ []))
    ∙ ap (map f) (sym (take_more xs n x (slice_get_within xs n x here) ∙ ap (λ y. take n xs ++ y ∷ []) (get_or_from_slice_get xs n x x here)))

pub all_made : {X Y : Type 0} (f : X → Y) (xs : List X) (n : ℕ) (made : List Y) → made ≡ map f (take n xs) → length xs ≤ n → made ≡ map f xs
all_made f xs n made so_far all = so_far ∙ ap (map f) (take_all n xs all)

-- the spelling of a pin by its place
part_at : (pins : List Pin) (k : ℕ) → k < length pins → get_or (map (λ (p : Pin). part p.name) pins) k [] ≡ pin_part pins k
part_at [] k below = absurd (omega (arith, below))
part_at (pin ∷ pins) zero below = refl
part_at (pin ∷ pins) (suc k) below = part_at pins k (omega (arith, below))

-- the pins of all cells are kept
module _ (cells : List NamedCells) (kept : List (List (List ℕ))) (are : kept ≡ map spelled_pins (set_cells cells)) (cell : ℕ) (within : cell < length cells) where
  count : length (set_cells cells) ≡ length cells
  count = length-map cells (λ (set : NamedCells). set.cells)

  pub cell_kept : cell < length kept
  cell_kept = omega (arith, ap length are, length-map (set_cells cells) spelled_pins, count, within)

  row_is : get_or kept cell [] ≡ map (λ (p : Pin). part p.name) (pins_of cells cell)
  row_is =
      let below : cell < length (set_cells cells) = omega (arith, count, within) in
      ap (λ rows. get_or rows cell []) are ∙ get_or-map spelled_pins (set_cells cells) cell [] [] below
      ∙ sym (ap (λ found. map (λ (p : Pin). part p.name) (option_map_or (λ models. pins_at models 0) found [])) (slice_get-get_or (set_cells cells) cell [] below))

  module _ (pin : ℕ) (has : pin < length (pins_of cells cell)) where
    pub pin_kept : pin < length (get_or kept cell [])
    pin_kept = omega (arith, ap length row_is, length-map (pins_of cells cell) (λ (p : Pin). part p.name), has)

    pub pin_is : get_or (get_or kept cell []) pin [] ≡ pin_part (pins_of cells cell) pin
    pin_is = ap (λ row. get_or row pin []) row_is ∙ part_at (pins_of cells cell) pin has
