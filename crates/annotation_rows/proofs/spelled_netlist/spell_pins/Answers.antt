use Rattle.std.proofs.Common.{◌≡◌, ℕ, List, [], ◌∷◌, ◌++◌, Some, ap, ◌∙◌, subst, arith}
use Rattle.std.specs.Prelude.{slice_get}
use Rattle.cell_models.specs.CornerCells.{pins_at}
use Rattle.cell_models.specs.declared.cell.Pin.{Pin}
use Rattle.name_table.specs.SdfNames.{part}
use Rattle.annotation_rows.proofs.SpelledPins.{more_made, all_made}
use Rattle.annotation_rows.proofs.spelled_netlist.spell_pins.Goals as goal

-- src/spelled_netlist.rt
pub loop-pin-preserved : goal.loop-pin-preserved
loop-pin-preserved g c =
    let pins : List Pin = pins_at c.args.cell.now 0 in
    let pin : Pin = c.pin-named.result.now in
    let here : slice_get pins c.loop-pin.pin ≡ Some pin =
    subst (λ (corner : ℕ). slice_get (pins_at c.args.cell.now corner) c.loop-pin.pin ≡ Some pin) c.first_corner.ensures c.pin-named.ensures in
    let text = c.in_ok-spelled.ensures.spelled ∙ ap part c.bytes.ensures in
    more_made (λ (p : Pin). part p.name) pins c.loop-pin.pin pin c.loop-pin.pins _ c.loop-pin.invariant here
    (c.in_ok-push.ensures.ok ∙ ap (λ (t : List ℕ). c.loop-pin.pins ++ t ∷ []) text)

pub returns : goal.returns
returns g c =
    all_made (λ (p : Pin). part p.name) (pins_at c.args.cell.now 0) c.loop-pin.pin c.loop-pin.pins c.loop-pin.invariant
    (omega (arith, c.pin_count-pin-end.ensures.count, c.loop-pin-test.false))
