use Rattle.std.proofs.Common.{◌<◌, length, ap, arith}
use Rattle.slew_order.specs.Timings.{arcs_in}
use Rattle.slew_order.proofs.Refusing.{refusals_more, steps_first, steps_both, steps_part}
use Rattle.slew_order.proofs.refusals.first_refusal.Goals as goal

-- src/refusals.rt
pub returns-in-Some-clause-steps : goal.returns-in-Some-clause-steps
returns-in-Some-clause-steps g c =
    let within : c.loop-arc.arc < length (arcs_in c.args.design.now) = omega (arith, c.loop-arc-test.true, ap length c.arcs-arc-end.ensures.arcs) in
    steps_first c.args.design.now c.loop-arc.arc within c.args.design.now.count _ _ _ c.loop-arc.invariant.steps c.refusal_of_edge.ensures.steps

pub returns-in-Some-refusal_of_edge-clause-steps : goal.returns-in-Some-refusal_of_edge-clause-steps
returns-in-Some-refusal_of_edge-clause-steps g c =
    let within : c.loop-arc.arc < length (arcs_in c.args.design.now) = omega (arith, c.loop-arc-test.true, ap length c.arcs-arc-end.ensures.arcs) in
    steps_part c.args.design.now _ c.args.design.now.count _ _
    (steps_both c.args.design.now c.loop-arc.arc within c.args.design.now.count _ _ _ _ c.loop-arc.invariant.steps c.refusal_of_edge.ensures.steps c.refusal_of_edge-in-loop-arc.ensures.steps)

pub loop-arc-preserved : goal.loop-arc-preserved
loop-arc-preserved g c =
    let within : c.loop-arc.arc < length (arcs_in c.args.design.now) = omega (arith, c.loop-arc-test.true, ap length c.arcs-arc-end.ensures.arcs) in record {
      none = refusals_more c.args.design.now c.loop-arc.arc c.loop-arc.invariant.none c.in_default.ensures.none c.in_default-refusal_of_edge.ensures.none;
      steps = steps_both c.args.design.now c.loop-arc.arc within c.args.design.now.count _ _ _ _ c.loop-arc.invariant.steps c.refusal_of_edge.ensures.steps
          c.refusal_of_edge-in-loop-arc.ensures.steps;
    }

pub returns-clause-none : goal.returns-clause-none
returns-clause-none g c = λ arc edge below. c.loop-arc.invariant.none arc edge (omega (arith, below, c.loop-arc-test.false, ap length c.arcs-arc-end.ensures.arcs))
