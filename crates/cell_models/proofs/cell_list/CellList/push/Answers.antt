use Rattle.std.proofs.lemmas.List.Elements.{All-push}
use Rattle.cell_models.specs.Cells.{IsCell}
use Rattle.cell_models.proofs.cell_list.CellList.push.Goals as goal

-- src/cell_list.rt
pub invariant_of-self : goal.invariant_of-self
invariant_of-self c = rw c.in_err-put.ensures.err c.self.invariant

pub invariant_of-self-2 : goal.invariant_of-self-2
invariant_of-self-2 c = rw c.in_ok-put.ensures.ok (All-push IsCell _ _ c.self.invariant c.pins.ensures.whole)
