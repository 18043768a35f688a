use Rattle.std.proofs.Common.{◌+◌, ◌*◌, ◌<◌, ◌≤◌}
use Rattle.rc_tree.specs.Arenas.{node_count}
use Rattle.elmore_pass.proofs.States.{Gathering}
use Rattle.elmore_pass.proofs.passes.gather.Given as goal

-- l.node is one more than the node
abbrev pub invariant-loop-node : goal.invariant-loop-node
invariant-loop-node g l = record {
  state : Gathering g.C.CornerSet.COUNT l.tree (g.C.CornerSet.number_of l.corner) l.fn.scratch l.scratch l.node;
  some : 0 < l.node;
  within : l.node ≤ node_count l.tree;
  steps : l.steps + 4 * l.node ≤ l.fn.steps + 4 * node_count l.tree;
}
