use Rattle.std.proofs.Common.{◌+◌, arith}
use Rattle.wire_phases.proofs.WireRows.{no_rows_yet, one_net_more, refusal_follows, all_nets_added}
use Rattle.wire_phases.proofs.SpefWork.{steps_more, front_steps}
use Rattle.wire_phases.proofs.wire_rows.rows_of_nets.Goals as goal

pub loop-s-init : goal.loop-s-init
loop-s-init g c = (no_rows_yet c.args.head.now.design c.args.nets.now c.in_ok-rows.rows c.in_ok-rows.ensures, omega arith)

pub returns-in_err-add : goal.returns-in_err-add
returns-in_err-add g c =
    let more = steps_more c.args.nets.now c.loop-s.s c.get.result c.args.steps.now c.loop-s.steps c.add.new.steps c.get.ensures.net c.loop-s.invariant.1 c.add.ensures.steps in
    let front = front_steps c.args.nets.now (c.loop-s.s + 1) in
    record {
      follows = refusal_follows c.args.head.now.design c.args.nets.now c.loop-s.s c.get.result c.loop-s.rows c.from_residual-in_err-add.result c.in_err-add.field-0.0 c.get.ensures.net c.loop-s.invariant.0 c.from_residual-in_err-add.ensures.1 c.in_err-add.ensures.refused;
      steps = omega (arith, more, front);
    }

pub loop-s-preserved : goal.loop-s-preserved
loop-s-preserved g c = (
  one_net_more c.args.head.now.design c.args.nets.now c.loop-s.s c.get.result c.loop-s.rows c.add.new.self c.get.ensures.net c.loop-s.invariant.0 c.in_ok-add.ensures.rows,
  steps_more c.args.nets.now c.loop-s.s c.get.result c.args.steps.now c.loop-s.steps c.add.new.steps c.get.ensures.net c.loop-s.invariant.1 c.add.ensures.steps,
)

pub returns : goal.returns
returns g c =
    let front = front_steps c.args.nets.now c.loop-s.s in
    record {
      follows = all_nets_added c.args.head.now.design c.args.nets.now c.loop-s.s c.finish.result (omega arith) (rw c.finish.ensures c.loop-s.invariant.0);
      steps = omega (arith, front, c.loop-s.invariant.1);
    }
