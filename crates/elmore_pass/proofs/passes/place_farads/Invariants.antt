use Rattle.std.proofs.Common.{◌≡◌, ◌+◌, ◌*◌}
use Rattle.elmore_pass.proofs.States.{Placing}
use Rattle.elmore_pass.proofs.passes.place_farads.Given as goal

abbrev pub invariant-loop-node : goal.invariant-loop-node
invariant-loop-node g l = record {
  state : Placing g.C.CornerSet.COUNT l.tree (g.C.CornerSet.number_of l.corner) l.fn.scratch l.scratch l.node;
  steps : l.steps ≡ l.fn.steps + 2 * l.node;
}
