use Rattle.std.proofs.Common.{◌+◌, ◌*◌, ◌≤◌}
use Rattle.elmore_pass.proofs.States.{Spreading}
use Rattle.elmore_pass.proofs.passes.spread.Given as goal

abbrev pub invariant-loop-node : goal.invariant-loop-node
invariant-loop-node g l = record {
  state : Spreading g.C.CornerSet.COUNT l.tree (g.C.CornerSet.number_of l.corner) l.fn.scratch l.scratch l.node;
  steps : l.steps + 4 ≤ l.fn.steps + 5 * l.node;
}
