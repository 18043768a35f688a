use Rattle.std.proofs.Common.{◌<◌, arith}
use Rattle.rc_tree.specs.Layouts.{layout_of}
use Rattle.rc_tree.proofs.Filled.{corners_step}
use Rattle.rc_tree.proofs.planting.fill_all.Goals as goal

-- src/planting.rt
pub fill_corner-requires-clause-no_ohms : goal.fill_corner-requires-clause-no_ohms
fill_corner-requires-clause-no_ohms g c row =
    let is = c.corner_at-corner.ensures in
    c.loop-number.invariant.state.no_ohms row (g.C.CornerSet.number_of c.corner_at-corner.result) (omega (arith, is)) (g.met.C.CornerSet.number_below c.corner_at-corner.result)

pub fill_corner-requires-clause-no_farads : goal.fill_corner-requires-clause-no_farads
fill_corner-requires-clause-no_farads g c row =
    let is = c.corner_at-corner.ensures in
    c.loop-number.invariant.state.no_farads row (g.C.CornerSet.number_of c.corner_at-corner.result) (omega (arith, is)) (g.met.C.CornerSet.number_below c.corner_at-corner.result)

pub loop-number-preserved : goal.loop-number-preserved
loop-number-preserved g c =
    let below : c.loop-number.number < g.C.CornerSet.COUNT = omega (arith, c.loop-number-test.true, c.COUNT-number-end.ensures) in
    record {
      state = corners_step g.C.CornerSet.COUNT c.args.section.now (g.P.PinSource.pins c.args.pins.now c.args.section.now) (layout_of c.args.layout.now) c.loop-number.ohms.values c.fill_corner.new.ohms.values c.loop-number.farads.values c.fill_corner.new.farads.values
          (g.C.CornerSet.number_of c.corner_at-corner.result) c.loop-number.number c.corner_at-corner.ensures below c.fill_corner.ensures.filled c.fill_corner.ensures.ohms c.fill_corner.ensures.farads c.loop-number.invariant.state;
      steps = omega (arith, c.fill_corner.ensures.steps, c.loop-number.invariant.steps);
    }

pub returns-clause-filled : goal.returns-clause-filled
returns-clause-filled g c k below = c.loop-number.invariant.state.filled k (omega (arith, below, c.loop-number-test.false, c.COUNT-number-end.ensures))
