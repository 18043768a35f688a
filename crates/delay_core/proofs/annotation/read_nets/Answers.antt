-- A refusal of the nets comes behind the SPEF file, and so does their work.
use Rattle.std.proofs.Common.{List, ℕ}
use Rattle.spef_nets.specs.Drafts.{corners_of}
use Rattle.net_delays.specs.NetTimes.{NetTimes}
use Rattle.design_phases.proofs.LibraryLemmas.{halted, lifted_follows}
use Rattle.delay_core.specs.TimingHalves.{slews_work, FindsNets, ReadsNetTimes, at_file}
use Rattle.delay_core.proofs.Following.{lifted_early, lifted_no_fault, nets_stop, nets_go}
use Rattle.delay_core.proofs.Work.{lent_work, lent_ahead}
use Rattle.delay_core.proofs.annotation.read_nets.Goals as goal
use Rattle.wire_phases.specs.SpefPhases.{ReadsSpefFile}

pub returns-in_err-nets-clause-follows : goal.returns-in_err-nets-clause-follows
returns-in_err-nets-clause-follows g c =
    let corners = corners_of g.C.CornerSet.COUNT g.C.CornerSet.number_of g.C.CornerSet.member_of c.args.settings.now.pick in
    lifted_follows NetTimes NetTimes c.from_residual-in_err-nets.result c.in_err-nets.field-0.0 (FindsNets corners c.args.design.now c.bytes.result.now c.args.settings.now)
    (ReadsNetTimes (g.H.Shelf.held c.args.shelf.now) corners c.args.design.now c.args.spef.now c.args.settings.now) c.from_residual-in_err-nets.ensures.1 c.in_err-nets.ensures.follows
    (λ refusal finds. nets_stop (g.H.Shelf.held c.args.shelf.now) corners c.args.design.now c.args.spef.now c.args.settings.now _ _ refusal c.in_ok-text.ensures.follows c.bytes.ensures finds)

pub returns-in_err-nets-clause-fault : goal.returns-in_err-nets-clause-fault
returns-in_err-nets-clause-fault g c = lifted_no_fault NetTimes c.from_residual-in_err-nets.result c.in_err-nets.field-0.0 _ c.from_residual-in_err-nets.ensures.1

pub returns-in_err-nets-clause-steps : goal.returns-in_err-nets-clause-steps
returns-in_err-nets-clause-steps g c =
    let corners = corners_of g.C.CornerSet.COUNT g.C.CornerSet.number_of g.C.CornerSet.member_of c.args.settings.now.pick in
    lent_work (g.H.Shelf.held c.args.shelf.now) corners c.args.design.now c.args.spef.now c.args.settings.now _ _ c.args.steps.now c.nets_from_text.new.steps
    c.in_ok-text.ensures.follows c.bytes.ensures c.nets_from_text.ensures.steps

pub returns-in_err-nets-clause-no_steps : goal.returns-in_err-nets-clause-no_steps
returns-in_err-nets-clause-no_steps g c =
    lifted_early NetTimes NetTimes c.from_residual-in_err-nets.result c.in_err-nets.field-0.0 _ c.from_residual-in_err-nets.ensures.1 c.in_err-nets.ensures.no_steps

pub returns-in_err-text-clause-follows : goal.returns-in_err-text-clause-follows
returns-in_err-text-clause-follows g c =
    let corners = corners_of g.C.CornerSet.COUNT g.C.CornerSet.number_of g.C.CornerSet.member_of c.args.settings.now.pick in
    halted (List ℕ) NetTimes c.from_residual.result c.in_err-text.field-0.0 (ReadsSpefFile (g.H.Shelf.held c.args.shelf.now) c.args.spef.now)
    (ReadsNetTimes (g.H.Shelf.held c.args.shelf.now) corners c.args.design.now c.args.spef.now c.args.settings.now) c.from_residual.ensures.1 c.in_err-text.ensures.follows
    (λ why reads. at_file why reads)

pub returns-clause-follows : goal.returns-clause-follows
returns-clause-follows g c =
    let corners = corners_of g.C.CornerSet.COUNT g.C.CornerSet.number_of g.C.CornerSet.member_of c.args.settings.now.pick in
    nets_go (g.H.Shelf.held c.args.shelf.now) corners c.args.design.now c.args.spef.now c.args.settings.now _ _ c.in_ok-nets.nets c.in_ok-text.ensures.follows c.bytes.ensures c.in_ok-nets.ensures.follows

pub returns-clause-steps : goal.returns-clause-steps
returns-clause-steps g c =
    let corners = corners_of g.C.CornerSet.COUNT g.C.CornerSet.number_of g.C.CornerSet.member_of c.args.settings.now.pick in
    lent_work (g.H.Shelf.held c.args.shelf.now) corners c.args.design.now c.args.spef.now c.args.settings.now _ _ c.args.steps.now c.nets_from_text.new.steps
    c.in_ok-text.ensures.follows c.bytes.ensures c.nets_from_text.ensures.steps

pub returns-clause-ahead : goal.returns-clause-ahead
returns-clause-ahead g c =
    let corners = corners_of g.C.CornerSet.COUNT g.C.CornerSet.number_of g.C.CornerSet.member_of c.args.settings.now.pick in
    lent_ahead (g.H.Shelf.held c.args.shelf.now) corners c.args.design.now c.args.spef.now c.args.settings.now _ _ (slews_work g.C.CornerSet.COUNT c.args.design.now) c.args.steps.now c.nets_from_text.new.steps
    c.in_ok-text.ensures.follows c.bytes.ensures c.in_ok-nets.ensures.ahead
