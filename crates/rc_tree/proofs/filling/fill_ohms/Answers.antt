use Rattle.std.proofs.Common.{arith}
use Rattle.rc_tree.proofs.FillTurns.{ohming_step}
use Rattle.rc_tree.proofs.filling.fill_ohms.Goals as goal

-- src/filling.rt
pub loop-node-preserved : goal.loop-node-preserved
loop-node-preserved g c = record {
  state = ohming_step g.C.CornerSet.COUNT c.args.section.now c.args.vias.now (g.C.CornerSet.number_of c.args.corner) c.args.ohms.now.values c.loop-node.ohms.values c.set.new.self.values c.loop-node.node c.res-resistor.result.ohms
      (g.met.C.CornerSet.number_below c.args.corner) c.requires.room (omega (arith, c.loop-node.auto.node)) (omega (arith, c.loop-node-test.true)) c.res-resistor.ensures.value c.res-resistor.ensures.most c.set.ensures.written c.loop-node.invariant.state;
  steps = omega (arith, c.res-resistor.ensures.step, c.loop-node.invariant.steps);
}
