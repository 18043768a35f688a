-- Where the nets stop, the design stops; a refusal of the slews comes behind the SPEF file, and so does their work.
use Rattle.spef_nets.specs.Drafts.{corners_of}
use Rattle.net_delays.specs.NetTimes.{NetTimes}
use Rattle.design_phases.proofs.LibraryLemmas.{halted, lifted_follows}
use Rattle.delay_core.specs.AnnotatedDesigns.{DesignDelays}
use Rattle.delay_core.specs.TimingHalves.{slews_work, ReadsNetTimes, TimesNets, ReadsDelays, DesignWork}
use Rattle.delay_core.proofs.Agreeing.{agree}
use Rattle.delay_core.proofs.Following.{lifted_late, lifted_no_fault, unread, untimed, timed}
use Rattle.delay_core.proofs.SlewEnds.{timing_late}
use Rattle.delay_core.proofs.Work.{with_rest}
use Rattle.delay_core.proofs.annotation.read_delays.Goals as goal

pub returns-in_err-delays-clause-follows : goal.returns-in_err-delays-clause-follows
returns-in_err-delays-clause-follows g c =
    let corners = corners_of g.C.CornerSet.COUNT g.C.CornerSet.number_of g.C.CornerSet.member_of c.args.settings.now.pick in
    lifted_follows DesignDelays DesignDelays c.from_residual-in_err-delays.result c.in_err-delays.field-0.0 (TimesNets g.C.CornerSet.COUNT c.args.design.now c.in_ok-nets.nets c.args.settings.now)
    (ReadsDelays (g.H.Shelf.held c.args.shelf.now) corners c.args.design.now c.args.spef.now c.args.settings.now) c.from_residual-in_err-delays.ensures.1 c.in_err-delays.ensures.follows
    (λ refusal times. untimed (g.H.Shelf.held c.args.shelf.now) corners c.args.design.now c.args.spef.now c.args.settings.now c.in_ok-nets.nets refusal c.in_ok-nets.ensures.follows times)

pub returns-in_err-delays-clause-fault : goal.returns-in_err-delays-clause-fault
returns-in_err-delays-clause-fault g c = lifted_no_fault DesignDelays c.from_residual-in_err-delays.result c.in_err-delays.field-0.0 _ c.from_residual-in_err-delays.ensures.1

pub returns-in_err-delays-clause-steps : goal.returns-in_err-delays-clause-steps
returns-in_err-delays-clause-steps g c =
    let corners = corners_of g.C.CornerSet.COUNT g.C.CornerSet.number_of g.C.CornerSet.member_of c.args.settings.now.pick in
    with_rest (DesignWork (g.H.Shelf.held c.args.shelf.now) corners c.args.design.now c.args.spef.now c.args.settings.now) (slews_work g.C.CornerSet.COUNT c.args.design.now)
    c.args.steps.now c.read_nets.new.steps c.time_design.new.steps c.in_ok-nets.ensures.ahead c.time_design.ensures.steps

pub returns-in_err-delays-clause-no_steps : goal.returns-in_err-delays-clause-no_steps
returns-in_err-delays-clause-no_steps g c =
    lifted_late DesignDelays DesignDelays c.from_residual-in_err-delays.result c.in_err-delays.field-0.0 (TimesNets g.C.CornerSet.COUNT c.args.design.now c.in_ok-nets.nets c.args.settings.now) _
    c.from_residual-in_err-delays.ensures.1 c.in_err-delays.ensures.follows
    (λ refusal times. timing_late g.C.CornerSet.COUNT c.args.design.now c.in_ok-nets.nets c.args.settings.now refusal times)

pub returns-in_err-nets-clause-follows : goal.returns-in_err-nets-clause-follows
returns-in_err-nets-clause-follows g c =
    let corners = corners_of g.C.CornerSet.COUNT g.C.CornerSet.number_of g.C.CornerSet.member_of c.args.settings.now.pick in
    halted NetTimes DesignDelays c.from_residual.result c.in_err-nets.field-0.0 (ReadsNetTimes (g.H.Shelf.held c.args.shelf.now) corners c.args.design.now c.args.spef.now c.args.settings.now)
    (ReadsDelays (g.H.Shelf.held c.args.shelf.now) corners c.args.design.now c.args.spef.now c.args.settings.now) c.from_residual.ensures.1 c.in_err-nets.ensures.follows
    (λ why reads. unread (g.H.Shelf.held c.args.shelf.now) corners c.args.design.now c.args.spef.now c.args.settings.now why reads)

pub returns-clause-steps : goal.returns-clause-steps
returns-clause-steps g c =
    let corners = corners_of g.C.CornerSet.COUNT g.C.CornerSet.number_of g.C.CornerSet.member_of c.args.settings.now.pick in
    with_rest (DesignWork (g.H.Shelf.held c.args.shelf.now) corners c.args.design.now c.args.spef.now c.args.settings.now) (slews_work g.C.CornerSet.COUNT c.args.design.now)
    c.args.steps.now c.read_nets.new.steps c.time_design.new.steps c.in_ok-nets.ensures.ahead c.time_design.ensures.steps

pub returns-clause-follows : goal.returns-clause-follows
returns-clause-follows g c =
    let corners = corners_of g.C.CornerSet.COUNT g.C.CornerSet.number_of g.C.CornerSet.member_of c.args.settings.now.pick in
    timed (g.H.Shelf.held c.args.shelf.now) corners c.args.design.now c.args.spef.now c.args.settings.now c.in_ok-nets.nets c.in_ok-delays.delays c.in_ok-nets.ensures.follows c.in_ok-delays.ensures.follows

pub returns-clause-agree : goal.returns-clause-agree
returns-clause-agree g c =
    agree g.C.CornerSet.COUNT c.args.design.now c.in_ok-nets.nets c.args.settings.now c.in_ok-delays.delays c.in_ok-delays.ensures.follows c.in_ok-delays.ensures.sound
