use Rattle.std.proofs.Common.{◌+◌, ◌≤◌}
use Rattle.rc_tree.proofs.FillTurns.{Ohming}
use Rattle.rc_tree.proofs.filling.fill_ohms.Given as goal

abbrev pub invariant-loop-node : goal.invariant-loop-node
invariant-loop-node g l = record {
  state : Ohming g.C.CornerSet.COUNT l.section l.vias (g.C.CornerSet.number_of l.corner) l.fn.ohms.values l.ohms.values l.node;
  steps : l.steps + 1 ≤ l.fn.steps + l.node;
}
