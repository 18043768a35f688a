use Rattle.std.proofs.Common.{◌-◌, refl, sym, subst, arith}
use Rattle.elmore_pass.proofs.States.{Gathering, gathering_start, gathering_at, gathering_fits, gathering_step}
use Rattle.elmore_pass.proofs.passes.gather.Goals as goal

-- src/passes.rt
pub loop-node-init : goal.loop-node-init
loop-node-init g c = record {
  state = subst (λ k. Gathering g.C.CornerSet.COUNT c.args.tree.now (g.C.CornerSet.number_of c.args.corner) c.args.scratch.now c.args.scratch.now k) (sym c.len-node.ensures.len)
      (gathering_start g.C.CornerSet.COUNT c.args.tree.now (g.C.CornerSet.number_of c.args.corner) c.args.scratch.now c.requires.placed);
  some = omega (arith, c.len-node.ensures.len, c.requires.some);
  within = omega (arith, c.len-node.ensures.len);
  steps = omega (arith, c.len-node.ensures.len);
}

pub give_to_parent-requires-clause-fits : goal.give_to_parent-requires-clause-fits
give_to_parent-requires-clause-fits g c =
    let fits = gathering_fits g.C.CornerSet.COUNT c.args.tree.now c.len-node.ensures.whole (g.C.CornerSet.number_of c.args.corner) c.args.scratch.now c.loop-node.scratch (c.loop-node.node - 1)
    (g.met.C.CornerSet.number_below c.args.corner) (omega (arith, c.loop-node-test.true)) (omega (arith, c.loop-node-test.true, c.loop-node.invariant.within))
    (gathering_at g.C.CornerSet.COUNT c.args.tree.now (g.C.CornerSet.number_of c.args.corner) c.args.scratch.now c.loop-node.scratch c.loop-node.node (c.loop-node.node - 1) c.loop-node.invariant.some refl c.loop-node.invariant.state) in
    omega (arith, fits)

pub loop-node-preserved : goal.loop-node-preserved
loop-node-preserved g c = record {
  state = gathering_step g.C.CornerSet.COUNT c.args.tree.now c.len-node.ensures.whole (g.C.CornerSet.number_of c.args.corner) c.args.scratch.now c.loop-node.scratch c.give_to_parent.new.scratch (c.loop-node.node - 1)
      (g.met.C.CornerSet.number_below c.args.corner) c.requires.room (omega (arith, c.loop-node-test.true)) (omega (arith, c.loop-node-test.true, c.loop-node.invariant.within))
      c.give_to_parent.ensures.given
      (gathering_at g.C.CornerSet.COUNT c.args.tree.now (g.C.CornerSet.number_of c.args.corner) c.args.scratch.now c.loop-node.scratch c.loop-node.node (c.loop-node.node - 1) c.loop-node.invariant.some refl c.loop-node.invariant.state);
  some = omega (arith, c.loop-node-test.true);
  within = omega (arith, c.loop-node.invariant.within);
  steps = omega (arith, c.loop-node-test.true, c.loop-node.invariant.steps, c.give_to_parent.ensures.steps);
}
