use Rattle.std.proofs.Common.{◌<◌, length, ◌∙◌, arith}
use Rattle.elmore_pass.proofs.CornerTurns.{delayed_step, has_delay}
use Rattle.elmore_pass.proofs.corners.elmore_into.Goals as goal

-- src/corners.rt
pub loop-number-preserved : goal.loop-number-preserved
loop-number-preserved g c =
    let below : c.loop-number.number < g.C.CornerSet.COUNT = omega (arith, c.loop-number-test.true, c.COUNT-number-end.ensures) in
    let all = delayed_step g.C.CornerSet.COUNT c.args.tree.now c.loop-number.scratch c.delays_at.new.scratch (g.C.CornerSet.number_of c.corner_at-corner.result) c.loop-number.number c.corner_at-corner.ensures below
    c.delays_at.ensures.others c.delays_at.ensures.delays (λ k h node h'. c.loop-number.invariant.delays k node h h') in
    record {
      delays = λ k node h h'. all k h node h';
      size = c.delays_at.ensures.others.size ∙ c.loop-number.invariant.size;
      steps = omega (arith, c.delays_at.ensures.steps, c.loop-number.invariant.steps);
    }

pub returns-clause-delays : goal.returns-clause-delays
returns-clause-delays g c node corner below =
    has_delay g.C.CornerSet.COUNT c.args.tree.now c.len.ensures.whole c.loop-number.scratch (length c.args.scratch.now) (g.C.CornerSet.number_of corner) node c.loop-number.invariant.size c.requires.room (g.met.C.CornerSet.number_below corner) below
    (λ k h. c.loop-number.invariant.delays (g.C.CornerSet.number_of corner) k (let b = g.met.C.CornerSet.number_below corner in omega (arith, b, c.loop-number-test.false, c.COUNT-number-end.ensures)) h)
