-- Shapes by their places.
use Rattle.std.proofs.Common.{◌≡◌, ◌≢◌, ℕ, zero, suc, ◌<◌, ◌≤◌, List, [], ◌∷◌, ◌++◌, length, map, slice_get, Some, None, refl, arith}
use Rattle.cell_models.specs.Shapes.{pin_entry, arc_entry}
use Rattle.cell_models.specs.declared.cell.Pin.{Pin}
use Rattle.cell_models.specs.declared.cell.Arc.{Arc}

-- past the pins there is no pin
pub no_pin : (pins : List Pin) (arcs : List Arc) (place : ℕ) (pin : Pin) → length pins ≤ place → slice_get (map pin_entry pins ++ map arc_entry arcs) place ≢ Some (pin_entry pin)
no_pin [] [] place pin past is = cc
no_pin [] (arc ∷ arcs) zero pin past is = cc
no_pin [] (arc ∷ arcs) (suc place) pin past is = no_pin [] arcs place pin (omega arith) is
no_pin (first ∷ pins) arcs zero pin past is = absurd (omega arith)
no_pin (first ∷ pins) arcs (suc place) pin past is = no_pin pins arcs place pin (omega arith) is

-- lists that end before a place and have the same before it are one list
pub same_before : {X : Type 0} (one other : List X) (end : ℕ) → length one ≤ end → length other ≤ end → ((place : ℕ) → place < end → slice_get one place ≡ slice_get other place) → other ≡ one
same_before [] [] end short also same = refl
same_before [] (there ∷ others) end short also same = let here : None ≡ Some there = same 0 (omega arith) in absurd (cc)
same_before (here ∷ ones) [] end short also same = let there : Some here ≡ None = same 0 (omega arith) in absurd (cc)
same_before (here ∷ ones) (there ∷ others) zero short also same = absurd (omega arith)
same_before (here ∷ ones) (there ∷ others) (suc end) short also same =
    let first : Some here ≡ Some there = same 0 (omega arith) in
    let rest : others ≡ ones = same_before ones others end (omega arith) (omega arith) (λ place below. same (suc place) (omega arith)) in
    cc
