use Rattle.std.proofs.Common.{◌≡◌, ℕ, ◌+◌, List, [], ◌∷◌, ◌++◌, map, take, sym, ap, ◌∙◌, subst}
use Rattle.std.specs.Prelude.{slice_get, Some}
use Rattle.std.proofs.lemmas.List.{map-append}
use Rattle.cell_models.specs.CornerCells.{pins_at}
use Rattle.cell_models.specs.declared.cell.Direction.{Direction}
use Rattle.cell_models.specs.declared.cell.Pin.{Pin}
use Rattle.netlist_link.proofs.Pushing.{take_push}
use Rattle.netlist_link.proofs.cell_pins.directions_of.Goals as goal

pub loop-j-preserved : goal.loop-j-preserved
loop-j-preserved g c =
    let pins = pins_at c.args.cell.now 0 in
    let j = c.loop-j.j in
    let pin = c.pin.result.now in
    let here : slice_get pins j ≡ Some pin = subst (λ (corner : ℕ). slice_get (pins_at c.args.cell.now corner) j ≡ Some pin) c.requires c.pin.ensures in
    let taken : take (j + 1) pins ≡ take j pins ++ pin ∷ [] = take_push pins j pin here in
    c.in_ok-push.ensures.ok ∙ ap (λ (l : List Direction). l ++ pin.direction ∷ []) c.loop-j.invariant
    ∙ sym (ap (map (λ (p : Pin). p.direction)) taken ∙ map-append (λ (p : Pin). p.direction) (take j pins) (pin ∷ []))
