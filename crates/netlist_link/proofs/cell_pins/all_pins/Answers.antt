use Rattle.std.proofs.Common.{◌≡◌, ℕ, ◌+◌, ⊎_elim, List, [], length, sym, ap, ◌∙◌, subst, arith}
use Rattle.std.specs.Prelude.{slice_get, Some, Option}
use Rattle.std.specs.Option.{option_map_or}
use Rattle.std.proofs.lemmas.List.{length_push}
use Rattle.cell_models.specs.Cells.{TimedCell}
use Rattle.cell_models.specs.CornerCells.{pins_at}
use Rattle.cell_models.specs.declared.cell.Pin.{Pin}
use Rattle.netlist_link.specs.FlatPins.{pins_of}
use Rattle.std.proofs.lemmas.Bool.{cases_lt}
use Rattle.name_table.specs.Names.{AreDistinct}
use Rattle.netlist_link.specs.JointTables.{AreCellPins, pin_names}
use Rattle.netlist_link.specs.declared.cell_pins.CellPins.{CellPins}
use Rattle.text_table.proofs.Pushing.{each_push}
use Rattle.netlist_link.proofs.cell_pins.all_pins.Goals as goal

pub loop-c-preserved : goal.loop-c-preserved
loop-c-preserved g c =
    let cells = c.args.cells.now in
    let old = c.loop-c.pins.items in
    let made = c.in_ok-pins_of.field-0 in
    let pins_are : pins_of cells c.loop-c.c ≡ pins_at c.set.result.now 0 =
    ap (λ (found : Option (List TimedCell)). option_map_or (λ (models : List TimedCell). pins_at models 0) found []) c.set.ensures in
    let last : AreCellPins (pins_of cells (length old)) made =
    subst (λ (n : ℕ). AreCellPins (pins_of cells n) made) (sym c.loop-c.invariant.0.count)
    (subst (λ (pins : List Pin). AreCellPins pins made) (sym pins_are) c.in_ok-pins_of.ensures.are) in (
      record {
        count = ap length c.in_ok-push.ensures.ok ∙ length_push old made ∙ ap (λ (n : ℕ). n + 1) c.loop-c.invariant.0.count;
        each = subst (λ (items : List CellPins). (i : ℕ) (pins : CellPins) → slice_get items i ≡ Some pins → AreCellPins (pins_of cells i) pins)
            (sym c.in_ok-push.ensures.ok) (each_push (λ i pins. AreCellPins (pins_of cells i) pins) old made c.loop-c.invariant.0.each last);
      },
      λ n below. ⊎_elim (λ before. c.loop-c.invariant.1 n before)
          (λ le. subst (λ (m : ℕ). AreDistinct (pin_names (pins_of cells m))) (omega (arith, le, below))
          (subst (λ (pins : List Pin). AreDistinct (pin_names pins)) (sym pins_are) c.in_ok-pins_of.ensures.distinct)) (cases_lt n c.loop-c.c),
    )
