use Rattle.std.proofs.Common.{◌≡◌, ◌+◌, length, refl, sym, ap, subst, ◌∙◌, arith}
use Rattle.net_parasitics.specs.Inputs.{Inputs}
use Rattle.net_parasitics.specs.NetSteps.{KeepsOtherNets, IsFirstNetEnd, AreFirstTimes}
use Rattle.net_parasitics.specs.declared.ends.ParasiticsEnd.TheVariants.{OutOfMemory}
use Rattle.net_parasitics.proofs.AllNets.{next_times, first_end, first_of_all, within_all, no_work_yet, next_work, handed_on}
use Rattle.net_parasitics.proofs.inputs.NetInputs.put_nets.Goals as goal

-- src/nets.rt
pub returns-in_err-work-clause-refused : goal.returns-in_err-work-clause-refused
returns-in_err-work-clause-refused g c =
    handed_on (IsFirstNetEnd c.args.self.now) c.from_residual.result OutOfMemory c.from_residual.ensures.1 (first_of_all c.args.self.now OutOfMemory refl)

pub returns-in_err-work-clause-work : goal.returns-in_err-work-clause-work
returns-in_err-work-clause-work g c = within_all c.args.self.now 0 c.args.steps.now c.args.steps.now (omega arith) (no_work_yet c.args.self.now c.args.steps.now)

pub loop-net-init : goal.loop-net-init
loop-net-init g c = (c.requires, no_work_yet c.args.self.now c.args.steps.now)

pub put_net-requires-clause-fits : goal.put_net-requires-clause-fits
put_net-requires-clause-fits g c = c.loop-net.invariant.0.fits

pub put_net-requires-clause-zero : goal.put_net-requires-clause-zero
put_net-requires-clause-zero g c =
    let many : c.net_count-net-end.result ≡ length c.args.self.now.netlist.nets = c.net_count-net-end.ensures.count ∙ ap (λ (i : Inputs). length i.netlist.nets) c.self.view_is in
    c.loop-net.invariant.0.after c.loop-net.net (omega arith) (omega (arith, many, c.loop-net-test.true))

pub returns-in_err-put_net-clause-refused : goal.returns-in_err-put_net-clause-refused
returns-in_err-put_net-clause-refused g c =
    handed_on (IsFirstNetEnd c.args.self.now) c.from_residual-in_err-put_net.result c.in_err-put_net.field-0.0 c.from_residual-in_err-put_net.ensures.1
    (first_end c.args.self.now c.loop-net.delays c.loop-net.net c.in_err-put_net.field-0.0 c.loop-net.invariant.0 c.in_err-put_net.ensures.refused)

pub returns-in_err-put_net-clause-work : goal.returns-in_err-put_net-clause-work
returns-in_err-put_net-clause-work g c =
    let many : c.net_count-net-end.result ≡ length c.args.self.now.netlist.nets = c.net_count-net-end.ensures.count ∙ ap (λ (i : Inputs). length i.netlist.nets) c.self.view_is in
    within_all c.args.self.now (c.loop-net.net + 1) c.args.steps.now c.put_net.new.steps (omega (arith, many, c.loop-net-test.true))
    (next_work c.args.self.now c.loop-net.net c.args.steps.now c.loop-net.steps c.put_net.new.steps c.loop-net.invariant.1 c.put_net.ensures.work)

pub loop-net-preserved : goal.loop-net-preserved
loop-net-preserved g c =
    let many : c.net_count-net-end.result ≡ length c.args.self.now.netlist.nets = c.net_count-net-end.ensures.count ∙ ap (λ (i : Inputs). length i.netlist.nets) c.self.view_is in (
      next_times c.args.self.now c.loop-net.delays c.put_net.new.delays c.loop-net.net (omega (arith, many, c.loop-net-test.true)) c.loop-net.invariant.0
          (subst (λ n. KeepsOtherNets n c.loop-net.delays c.put_net.new.delays c.loop-net.net) (sym c.sound.ensures.count) c.in_ok-put_net.ensures.others) c.in_ok-put_net.ensures.times,
      next_work c.args.self.now c.loop-net.net c.args.steps.now c.loop-net.steps c.put_net.new.steps c.loop-net.invariant.1 c.put_net.ensures.work,
    )

pub returns-clause-times : goal.returns-clause-times
returns-clause-times g c =
    let many : c.net_count-net-end.result ≡ length c.args.self.now.netlist.nets = c.net_count-net-end.ensures.count ∙ ap (λ (i : Inputs). length i.netlist.nets) c.self.view_is in
    let all : c.loop-net.net ≡ length c.args.self.now.netlist.nets = omega (arith, many, c.loop-net-test.false, c.loop-net.auto.net-end) in
    subst (λ n. AreFirstTimes c.args.self.now n c.loop-net.delays) all c.loop-net.invariant.0

pub returns-clause-work : goal.returns-clause-work
returns-clause-work g c =
    let many : c.net_count-net-end.result ≡ length c.args.self.now.netlist.nets = c.net_count-net-end.ensures.count ∙ ap (λ (i : Inputs). length i.netlist.nets) c.self.view_is in
    within_all c.args.self.now c.loop-net.net c.args.steps.now c.loop-net.steps (omega (arith, many, c.loop-net.auto.net-end)) c.loop-net.invariant.1
