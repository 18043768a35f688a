use Rattle.std.proofs.Common.{◌≡◌}
use Rattle.rc_tree.specs.Sums.{sum_below}
use Rattle.rc_tree.specs.Values.{farads_at}
use Rattle.rc_tree.proofs.tree.RcTree.load.Given as goal

-- the sum up to the node
abbrev pub invariant-loop-node : goal.invariant-loop-node
invariant-loop-node g l = l.sum ≡ sum_below l.node (λ node. farads_at g.C.CornerSet.COUNT l.self-inside.farads.values node (g.C.CornerSet.number_of l.corner))
