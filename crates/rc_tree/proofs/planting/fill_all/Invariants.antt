use Rattle.std.proofs.Common.{◌+◌, ◌*◌, ◌≤◌, length}
use Rattle.rc_tree.specs.Layouts.{layout_of}
use Rattle.rc_tree.proofs.Filled.{Corners}
use Rattle.rc_tree.proofs.planting.fill_all.Given as goal

abbrev pub invariant-loop-number : goal.invariant-loop-number
invariant-loop-number g l = record {
  state : Corners g.C.CornerSet.COUNT l.section (g.P.PinSource.pins l.pins l.section) (layout_of l.layout) l.ohms.values l.farads.values l.number;
  steps : l.steps + l.number ≤ l.fn.steps + l.number * (length l.layout.parents.now + length l.section.caps);
}
