use Rattle.rc_tree.proofs.Filled.{bare, no_row}
use Rattle.rc_tree.proofs.tree.RcTree.new.Goals as goal

-- src/tree.rt
pub invariant_of-result : goal.invariant_of-result
invariant_of-result g c = bare g.C.CornerSet.COUNT _ _ _ _ c.new.ensures.items (no_row g.C.CornerSet.COUNT _ _ c.in_ok-ohms.ensures.values) (no_row g.C.CornerSet.COUNT _ _ c.in_ok-farads.ensures.values) c.new-2.ensures.items
