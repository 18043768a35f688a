use Rattle.std.proofs.Common.{arith}
use Rattle.elmore_pass.proofs.States.{spreading_start, spreading_fits, spreading_step}
use Rattle.elmore_pass.proofs.passes.spread.Goals as goal

-- src/passes.rt
pub loop-node-init : goal.loop-node-init
loop-node-init g c = record {
  state = spreading_start g.C.CornerSet.COUNT c.args.tree.now c.len-node-end.ensures.whole (g.C.CornerSet.number_of c.args.corner) c.args.scratch.now c.set.new.self
      (g.met.C.CornerSet.number_below c.args.corner) c.requires.room c.requires.some c.set.ensures.written c.requires.below;
  steps = omega (arith, c.set.ensures.step);
}

pub take_from_parent-requires-clause-fits : goal.take_from_parent-requires-clause-fits
take_from_parent-requires-clause-fits g c =
    let fits = spreading_fits g.C.CornerSet.COUNT c.args.tree.now c.len-node-end.ensures.whole (g.C.CornerSet.number_of c.args.corner) c.args.scratch.now c.loop-node.scratch c.loop-node.node
    (g.met.C.CornerSet.number_below c.args.corner) (omega (arith, c.loop-node.auto.node)) (omega (arith, c.loop-node-test.true, c.len-node-end.ensures.len)) c.loop-node.invariant.state in
    omega (arith, fits)

pub loop-node-preserved : goal.loop-node-preserved
loop-node-preserved g c = record {
  state = spreading_step g.C.CornerSet.COUNT c.args.tree.now c.len-node-end.ensures.whole (g.C.CornerSet.number_of c.args.corner) c.args.scratch.now c.loop-node.scratch c.take_from_parent.new.scratch c.loop-node.node
      (g.met.C.CornerSet.number_below c.args.corner) c.requires.room (omega (arith, c.loop-node.auto.node)) (omega (arith, c.loop-node-test.true, c.len-node-end.ensures.len)) c.take_from_parent.ensures.taken c.loop-node.invariant.state;
  steps = omega (arith, c.loop-node.invariant.steps, c.take_from_parent.ensures.steps);
}
