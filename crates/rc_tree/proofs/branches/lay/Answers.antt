use Rattle.rc_tree.proofs.Growing.{layout_same}
use Rattle.rc_tree.proofs.branches.lay.Goals as goal

-- src/branches.rt
pub returns : goal.returns
returns c = layout_same _ _ _ _ _ _ _ _ c.deref.ensures.value c.deref-2.ensures.value c.deref-3.ensures.value c.deref-4.ensures.value
