use Rattle.rc_tree.proofs.Filled.{bare}
use Rattle.rc_tree.proofs.tree.RcTree.clear.Goals as goal

-- src/tree.rt
pub invariant_of-self : goal.invariant_of-self
invariant_of-self g c = bare g.C.CornerSet.COUNT _ _ _ _ c.empty_lists.ensures.parents c.empty_lists.ensures.ohms c.empty_lists.ensures.farads c.empty_lists.ensures.sinks
