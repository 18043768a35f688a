use Rattle.std.proofs.Common.{ℕ, List, [], ◌∷◌, ◌++◌, ap, ◌∙◌, arith}
use Rattle.std.proofs.lemmas.List.{length-map}
use Rattle.cell_models.specs.NamedSets.{NamedCells, set_cells}
use Rattle.annotation_rows.specs.SdfEnds.{spelled_pins}
use Rattle.annotation_rows.proofs.SpelledPins.{more_made, all_made}
use Rattle.annotation_rows.proofs.spelled_netlist.spell_all.Goals as goal

-- src/spelled_netlist.rt
pub loop-cell-preserved : goal.loop-cell-preserved
loop-cell-preserved g c =
    more_made spelled_pins (set_cells c.args.cells.now) c.loop-cell.cell c.set.result.now c.loop-cell.pins.items _ c.loop-cell.invariant c.set.ensures
    (c.in_ok-push.ensures.ok ∙ ap (λ (row : List (List ℕ)). c.loop-cell.pins.items ++ row ∷ []) c.in_ok-own.ensures)

pub returns : goal.returns
returns g c =
    all_made spelled_pins (set_cells c.args.cells.now) c.loop-cell.cell c.loop-cell.pins.items c.loop-cell.invariant
    (omega (arith, c.len-cell-end.ensures, length-map c.args.cells.now (λ (set : NamedCells). set.cells), c.loop-cell-test.false))
