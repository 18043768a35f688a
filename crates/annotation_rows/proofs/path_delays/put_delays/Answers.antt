use Rattle.std.proofs.Common.{sym, ◌∙◌, arith}
use Rattle.annotation_rows.specs.PathRows.{cell_arcs}
use Rattle.annotation_rows.proofs.BestSteps.{bests_none, steps_next}
use Rattle.annotation_rows.proofs.path_delays.put_delays.Goals as goal

-- src/path_delays.rt
pub loop-arc-init : goal.loop-arc-init
loop-arc-init g c = record {
  bests = bests_none c.args.design.now c.args.instance c.args.edge c.arc_count-arcs.result g.C.CornerSet.COUNT c.empty_rows.new.values.values
      c.arc_count-arcs.ensures (sym c.corner_count.ensures.corners ∙ c.corner_count.ensures.count) c.in_ok-empty_rows.ensures;
  steps = omega arith;
}

pub loop-arc-preserved : goal.loop-arc-preserved
loop-arc-preserved g c = record {
  bests = c.add_arc.ensures.bests;
  steps = steps_next c.args.design.now.source.count c.args.edge (cell_arcs c.args.design.now c.args.instance) c.loop-arc.arc c.args.steps.now c.loop-arc.steps c.add_arc.new.steps
      (omega (arith, c.loop-arc-test.true, c.loop-arc.auto.arc-end, c.arc_count-arcs.ensures)) c.loop-arc.invariant.steps c.add_arc.ensures.steps;
}
