use Rattle.std.proofs.Common.{◌≡◌, ◌+◌, ◌≤◌, ◌<◌, arith, ap, ◌∙◌, length}
use Rattle.rc_tree.specs.Arenas.{most_load}
use Rattle.rc_tree.specs.Sums.{sum_below}
use Rattle.rc_tree.specs.Values.{farads_at}
use Rattle.rc_tree.proofs.ArenaNets.{load_step, load_most, load_end, load_end_most}
use Rattle.rc_tree.proofs.tree.RcTree.load.Goals as goal

-- src/tree.rt
pub overflow_add-sum : goal.overflow_add-sum
overflow_add-sum g c =
    let within : c.loop-node.node < length c.self.inside.parents.items = omega (arith, c.loop-node-test.true, c.len-node-end.ensures, c.self.inside.parents.ok.0) in
    let most : c.loop-node.sum + c.get-sum.result.0 ≤ most_load = load_most g.C.CornerSet.COUNT _ c.self.invariant (g.C.CornerSet.number_of c.args.corner) c.loop-node.node c.loop-node.sum c.get-sum.result (g.met.C.CornerSet.number_below c.args.corner) within c.loop-node.invariant c.get-sum.ensures in
    omega (arith, most)

pub loop-node-preserved : goal.loop-node-preserved
loop-node-preserved g c =
    load_step g.C.CornerSet.COUNT c.self.inside.farads.values (g.C.CornerSet.number_of c.args.corner) c.loop-node.node c.loop-node.sum c.get-sum.result c.loop-node.invariant c.get-sum.ensures

pub returns-clause-sum : goal.returns-clause-sum
returns-clause-sum g c =
    let all : c.loop-node.node ≡ length c.self.inside.parents.items = omega (arith, c.loop-node-test.false, c.loop-node.auto.node-end, c.len-node-end.ensures, c.self.inside.parents.ok.0) in
    load_end g.C.CornerSet.COUNT _ _ c.self.view_is (g.C.CornerSet.number_of c.args.corner) c.loop-node.sum
    (c.loop-node.invariant ∙ ap (λ k. sum_below k (λ node. farads_at g.C.CornerSet.COUNT c.self.inside.farads.values node (g.C.CornerSet.number_of c.args.corner))) all)

pub returns-clause-most : goal.returns-clause-most
returns-clause-most g c =
    let all : c.loop-node.node ≡ length c.self.inside.parents.items = omega (arith, c.loop-node-test.false, c.loop-node.auto.node-end, c.len-node-end.ensures, c.self.inside.parents.ok.0) in
    load_end_most g.C.CornerSet.COUNT _ c.self.invariant (g.C.CornerSet.number_of c.args.corner) (g.met.C.CornerSet.number_below c.args.corner) c.loop-node.sum
    (c.loop-node.invariant ∙ ap (λ k. sum_below k (λ node. farads_at g.C.CornerSet.COUNT c.self.inside.farads.values node (g.C.CornerSet.number_of c.args.corner))) all)
