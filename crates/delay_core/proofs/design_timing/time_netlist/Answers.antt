-- The slews are found, and then the rows.
use Rattle.std.proofs.Common.{◌<◌, All, arith, subst}
use Rattle.net_delays.specs.NetTimes.{NetTimes, elmore_limit}
use Rattle.slew_order.specs.Slews.{SlewTables}
use Rattle.design_phases.specs.DesignReading.{LinkedDesign}
use Rattle.delay_core.specs.AnnotatedDesigns.{DesignDelays}
use Rattle.delay_core.specs.DesignTiming.{slew_source}
use Rattle.delay_core.specs.SlewPhase.{FindsSlews}
use Rattle.delay_core.specs.TimingHalves.{TimesNets, stops_at_slews}
use Rattle.delay_core.proofs.Agreeing.{tables_fit}
use Rattle.delay_core.proofs.Timing.{refused_on, timed_by}
use Rattle.delay_core.proofs.design_timing.time_netlist.Goals as goal

pub returns-in_err-slews-clause-follows : goal.returns-in_err-slews-clause-follows
returns-in_err-slews-clause-follows g c =
    let design : LinkedDesign = record { netlist = c.args.linked.now.netlist; cells = c.args.linked.now.cells } in
    refused_on SlewTables DesignDelays c.from_residual.result c.in_err-slews.field-0.0
    (FindsSlews (slew_source g.C.CornerSet.COUNT design c.args.nets c.args.settings.now))
    (TimesNets g.C.CornerSet.COUNT design c.args.nets c.args.settings.now)
    c.from_residual.ensures.1 c.in_err-slews.ensures.follows
    (λ refusal finds. stops_at_slews refusal finds)

pub returns-in_err-slews-clause-steps : goal.returns-in_err-slews-clause-steps
returns-in_err-slews-clause-steps g c =
    let slews = c.find_slews.ensures.steps in
    omega (arith, slews)

pub annotation_rows-requires : goal.annotation_rows-requires
annotation_rows-requires g c =
    let design : LinkedDesign = record { netlist = c.args.linked.now.netlist; cells = c.args.linked.now.cells } in
    record { tables = tables_fit (slew_source g.C.CornerSet.COUNT design c.args.nets c.args.settings.now) c.in_ok-slews.slews c.in_ok-slews.ensures.follows }

pub returns-in_err-rows-clause-steps : goal.returns-in_err-rows-clause-steps
returns-in_err-rows-clause-steps g c =
    let slews = c.find_slews.ensures.steps in
    let rows = c.annotation_rows.ensures.steps in
    omega (arith, slews, rows)

pub returns-clause-follows : goal.returns-clause-follows
returns-clause-follows g c =
    let design : LinkedDesign = record { netlist = c.args.linked.now.netlist; cells = c.args.linked.now.cells } in
    timed_by g.C.CornerSet.COUNT design c.args.settings.now c.args.nets c.in_ok-slews.slews c.in_ok-rows.rows
    c.in_ok-slews.ensures.follows c.in_ok-rows.ensures.rows

pub returns-clause-steps : goal.returns-clause-steps
returns-clause-steps g c =
    let slews = c.find_slews.ensures.steps in
    let rows = c.annotation_rows.ensures.steps in
    omega (arith, slews, rows)

pub returns-clause-sound : goal.returns-clause-sound
returns-clause-sound g c = record {
  shaped = c.in_ok-rows.ensures.shaped;
  small = subst (λ (times : NetTimes). All (λ elmore. elmore < elmore_limit) times.elmores) c.nets.view_is c.nets.invariant.small;
}
