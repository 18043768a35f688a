-- Arc after arc.
use Rattle.std.proofs.Common.{◌≡◌, List, length, unsigned_abs, ap, arith}
use Rattle.cell_models.specs.declared.cell.Arc.{Arc}
use Rattle.command_rows.specs.ArcRows.{edges_of, arc_edges, IsFirstRefused}
use Rattle.command_rows.proofs.ArcLemmas.{refusal_passes, refused_in, count_within, count_more, adds_more, gives_all}
use Rattle.command_rows.proofs.arc_rows.arc_rows.Goals as goal

pub returns-in_err-add_arc-clause-follows : goal.returns-in_err-add_arc-clause-follows
returns-in_err-add_arc-clause-follows g c =
    let name = c.args.name.now in
    let slew = unsigned_abs c.args.at.slew.0 in
    let load = c.args.at.load.0 in
    let beyond = c.args.at.beyond in
    let pins = c.pins-pins.result.now in
    let arcs = c.arcs-arc-items.result.now in
    refusal_passes (Unit {0}) c.args.corner name c.args.cell.now slew load beyond c.from_residual.result c.in_err-add_arc.field-0.0 (IsFirstRefused c.args.corner name pins slew load beyond (edges_of c.arc-item.result)) c.from_residual.ensures.1 c.in_err-add_arc.ensures.refused
    (λ refusal is. refused_in c.args.corner name c.args.cell.now slew load beyond pins arcs c.loop-arc.arc-index c.arc-item.result c.loop-arc.rows refusal c.pins-pins.ensures.pins c.arcs-arc-items.ensures.arcs c.loop-arc-test.true c.arc-item.is c.loop-arc.invariant.adds is)

pub returns-in_err-add_arc-clause-steps : goal.returns-in_err-add_arc-clause-steps
returns-in_err-add_arc-clause-steps g c =
    let arcs = c.arcs-arc-items.result.now in
    let within = count_within arcs c.loop-arc.arc-index c.arc-item.result c.loop-arc-test.true c.arc-item.is in
    let whole : length (arc_edges arcs) ≡ length (arc_edges c.args.cell.now.arcs) = ap (λ (a : List Arc). length (arc_edges a)) c.arcs-arc-items.ensures.arcs in
    let bound = c.loop-arc.invariant.bound in
    let more = c.add_arc.ensures.steps in
    omega (arith, within, whole, bound, more)

pub loop-arc-preserved : goal.loop-arc-preserved
loop-arc-preserved g c =
    let arcs = c.arcs-arc-items.result.now in
    let count = count_more arcs c.loop-arc.arc-index c.arc-item.result c.loop-arc-test.true c.arc-item.is in
    let bound = c.loop-arc.invariant.bound in
    let more = c.add_arc.ensures.steps in
    record {
      adds = adds_more c.pins-pins.result.now (unsigned_abs c.args.at.slew.0) c.args.at.load.0 c.args.at.beyond arcs c.loop-arc.arc-index c.arc-item.result c.loop-arc.rows c.add_arc.new.rows c.loop-arc-test.true c.arc-item.is c.loop-arc.invariant.adds c.in_ok-add_arc.ensures.ok;
      forward = omega arith;
      bound = omega (arith, count, bound, more);
    }

pub returns-clause-follows : goal.returns-clause-follows
returns-clause-follows g c =
    gives_all c.args.corner c.args.name.now c.args.cell.now (unsigned_abs c.args.at.slew.0) c.args.at.load.0 c.args.at.beyond c.pins-pins.result.now c.arcs-arc-items.result.now c.loop-arc.arc-index c.loop-arc.rows c.pins-pins.ensures.pins c.arcs-arc-items.ensures.arcs c.loop-arc-test.false c.loop-arc.invariant.adds
