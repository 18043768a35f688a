use Rattle.rc_tree.proofs.Filled.{no_row}
use Rattle.rc_tree.proofs.planting.empty_lists.Goals as goal

-- src/planting.rt
pub returns-clause-ohms : goal.returns-clause-ohms
returns-clause-ohms g c = no_row g.C.CornerSet.COUNT _ _ c.reuse.ensures.values

pub returns-clause-farads : goal.returns-clause-farads
returns-clause-farads g c = no_row g.C.CornerSet.COUNT _ _ c.reuse-2.ensures.values
