-- The end of a net's tree as one of its netlist.
use Rattle.std.specs.Prelude.{◌≢◌, ℕ}
use Rattle.rc_tree.specs.declared.ends.TreeEnd.{TreeEnd}
use Rattle.rc_tree.specs.declared.ends.TreeEnd.TheVariants as tree
use Rattle.net_parasitics.specs.declared.ends.ParasiticsEnd.{ParasiticsEnd}
use Rattle.net_parasitics.specs.declared.ends.ParasiticsEnd.TheVariants.{Tree, OutOfMemory}

-- the net is refused, or there was no memory
pub data IsEndOf (net : ℕ) : TreeEnd → ParasiticsEnd → Type 0 where
  is_refused : (end : TreeEnd) → end ≢ tree.OutOfMemory → IsEndOf net end (Tree net end)
  is_short : IsEndOf net tree.OutOfMemory OutOfMemory
