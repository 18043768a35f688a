use Rattle.std.proofs.Common.{◌≡◌, arith}
use Rattle.std.specs.Prelude.{IsTrue}
use Rattle.net_parasitics.specs.Inputs.{inputs_of}
use Rattle.net_parasitics.specs.NetTrees.{IsParasiticsEnd, no_memory}
use Rattle.net_parasitics.specs.WorkCounts.{is_early}
use Rattle.net_parasitics.specs.declared.ends.ParasiticsEnd.{ParasiticsEnd}
use Rattle.net_parasitics.specs.declared.ends.ParasiticsEnd.TheVariants.{OutOfMemory}
use Rattle.net_parasitics.proofs.AllNets.{end_of_missing, end_of_nets, not_early, within_all, no_work_yet, handed_on}
use Rattle.net_parasitics.proofs.nets.net_delays.Goals as goal

-- src/nets.rt
pub returns-in_err-check_missing-clause-refused : goal.returns-in_err-check_missing-clause-refused
returns-in_err-check_missing-clause-refused g c =
    let inputs = inputs_of g.C.CornerSet.COUNT c.args.linked.now.netlist c.args.linked.now.cells c.args.sections.now c.args.port_load in
    handed_on (IsParasiticsEnd inputs c.args.missing) c.from_residual.result c.in_err-check_missing.field-0.0 c.from_residual.ensures.1
    (end_of_missing inputs c.args.missing c.in_err-check_missing.field-0.0 c.in_err-check_missing.ensures.refused)

pub returns-in_err-check_missing-clause-work : goal.returns-in_err-check_missing-clause-work
returns-in_err-check_missing-clause-work g c =
    let inputs = inputs_of g.C.CornerSet.COUNT c.args.linked.now.netlist c.args.linked.now.cells c.args.sections.now c.args.port_load in
    within_all inputs 0 c.args.steps.now c.args.steps.now (omega arith) (no_work_yet inputs c.args.steps.now)

pub returns-in_err-delays-clause-refused : goal.returns-in_err-delays-clause-refused
returns-in_err-delays-clause-refused g c =
    let inputs = inputs_of g.C.CornerSet.COUNT c.args.linked.now.netlist c.args.linked.now.cells c.args.sections.now c.args.port_load in
    handed_on (IsParasiticsEnd inputs c.args.missing) c.from_residual-in_err-delays.result OutOfMemory c.from_residual-in_err-delays.ensures.1 no_memory

pub returns-in_err-delays-clause-work : goal.returns-in_err-delays-clause-work
returns-in_err-delays-clause-work g c =
    let inputs = inputs_of g.C.CornerSet.COUNT c.args.linked.now.netlist c.args.linked.now.cells c.args.sections.now c.args.port_load in
    within_all inputs 0 c.args.steps.now c.args.steps.now (omega arith) (no_work_yet inputs c.args.steps.now)

pub returns-in_err-put_nets-clause-refused : goal.returns-in_err-put_nets-clause-refused
returns-in_err-put_nets-clause-refused g c =
    let inputs = inputs_of g.C.CornerSet.COUNT c.args.linked.now.netlist c.args.linked.now.cells c.args.sections.now c.args.port_load in
    handed_on (IsParasiticsEnd inputs c.args.missing) c.from_residual-in_err-put_nets.result c.in_err-put_nets.field-0.0 c.from_residual-in_err-put_nets.ensures.1
    (end_of_nets inputs c.args.missing c.in_err-put_nets.field-0.0 c.in_ok-check_missing.ensures.none c.in_err-put_nets.ensures.refused)

pub returns-in_err-put_nets-clause-no_steps : goal.returns-in_err-put_nets-clause-no_steps
returns-in_err-put_nets-clause-no_steps g c =
    let inputs = inputs_of g.C.CornerSet.COUNT c.args.linked.now.netlist c.args.linked.now.cells c.args.sections.now c.args.port_load in
    handed_on (λ (e : ParasiticsEnd). IsTrue (is_early e) → c.put_nets.new.steps ≡ c.args.steps.now) c.from_residual-in_err-put_nets.result c.in_err-put_nets.field-0.0 c.from_residual-in_err-put_nets.ensures.1
    (λ early. absurd (not_early inputs c.in_err-put_nets.field-0.0 c.in_err-put_nets.ensures.refused early))
