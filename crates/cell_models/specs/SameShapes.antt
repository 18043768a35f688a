-- Cells of one shape have the same pins, but for their capacitances, and the same arcs, but for their tables.
use Rattle.std.specs.Prelude.{◌≡◌, List, [], ◌∷◌, ◌++◌, map, refl}
use Rattle.cell_models.specs.Cells.{TimedCell}
use Rattle.cell_models.specs.Shapes.{pin_entry, arc_entry, shape_of}
use Rattle.cell_models.specs.declared.cell.Pin.{Pin}
use Rattle.cell_models.specs.declared.cell.Arc.{Arc}

module _ (ones others : List Arc) where
  same_pins_of : (pins also : List Pin) → map pin_entry pins ++ map arc_entry ones ≡ map pin_entry also ++ map arc_entry others
      → map pin_entry pins ≡ map pin_entry also
  same_pins_of [] [] same = refl
  same_pins_of [] (pin ∷ also) same = by ones same
    where
      by : (arcs : List Arc) → map arc_entry arcs ≡ pin_entry pin ∷ (map pin_entry also ++ map arc_entry others)
          → [] ≡ map pin_entry (pin ∷ also)
      by [] same = cc
      by (arc ∷ arcs) same = cc
  same_pins_of (pin ∷ pins) [] same = by others same
    where
      by : (arcs : List Arc) → pin_entry pin ∷ (map pin_entry pins ++ map arc_entry ones) ≡ map arc_entry arcs
          → map pin_entry (pin ∷ pins) ≡ []
      by [] same = cc
      by (arc ∷ arcs) same = cc
  same_pins_of (pin ∷ pins) (here ∷ also) same =
      let first : pin_entry pin ≡ pin_entry here = cc in
      let behind : map pin_entry pins ++ map arc_entry ones ≡ map pin_entry also ++ map arc_entry others = cc in
      let rest : map pin_entry pins ≡ map pin_entry also = same_pins_of pins also behind in
      cc

  same_arcs_of : (pins also : List Pin) → map pin_entry pins ++ map arc_entry ones ≡ map pin_entry also ++ map arc_entry others
      → map arc_entry ones ≡ map arc_entry others
  same_arcs_of [] [] same = same
  same_arcs_of [] (pin ∷ also) same = by ones same
    where
      by : (arcs : List Arc) → map arc_entry arcs ≡ pin_entry pin ∷ (map pin_entry also ++ map arc_entry others)
          → map arc_entry arcs ≡ map arc_entry others
      by [] same = cc
      by (arc ∷ arcs) same = cc
  same_arcs_of (pin ∷ pins) [] same = by others same
    where
      by : (arcs : List Arc) → pin_entry pin ∷ (map pin_entry pins ++ map arc_entry ones) ≡ map arc_entry arcs
          → map arc_entry ones ≡ map arc_entry arcs
      by [] same = cc
      by (arc ∷ arcs) same = cc
  same_arcs_of (pin ∷ pins) (here ∷ also) same =
      let behind : map pin_entry pins ++ map arc_entry ones ≡ map pin_entry also ++ map arc_entry others = cc in
      same_arcs_of pins also behind

pub same_pins : (one other : TimedCell) → shape_of one ≡ shape_of other → map pin_entry one.pins ≡ map pin_entry other.pins
same_pins one other same = same_pins_of one.arcs other.arcs one.pins other.pins same

pub same_arcs : (one other : TimedCell) → shape_of one ≡ shape_of other → map arc_entry one.arcs ≡ map arc_entry other.arcs
same_arcs one other same = same_arcs_of one.arcs other.arcs one.pins other.pins same
