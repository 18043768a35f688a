-- Where the delays stop, the design stops.
use Rattle.std.proofs.Common.{sym, subst}
use Rattle.spef_nets.specs.Drafts.{corners_of}
use Rattle.verdict_phases.specs.Phases.{Go}
use Rattle.design_phases.proofs.LibraryLemmas.{halted}
use Rattle.delay_core.specs.AnnotatedDesigns.{AnnotatedDesign, DesignDelays}
use Rattle.delay_core.specs.TimingHalves.{AnnotatesDesign, ReadsDelays}
use Rattle.delay_core.proofs.annotation.annotate_design.Goals as goal

pub returns-in_err-delays-clause-follows : goal.returns-in_err-delays-clause-follows
returns-in_err-delays-clause-follows g c =
    let corners = corners_of g.C.CornerSet.COUNT g.C.CornerSet.number_of g.C.CornerSet.member_of c.args.settings.now.pick in
    halted DesignDelays AnnotatedDesign c.from_residual.result c.in_err-delays.field-0.0 (ReadsDelays (g.H.Shelf.held c.args.shelf.now) corners c.args.design c.args.spef.now c.args.settings.now)
    (AnnotatesDesign (g.H.Shelf.held c.args.shelf.now) corners c.args.design c.args.spef.now c.args.settings.now) c.from_residual.ensures.1 c.in_err-delays.ensures.follows
    (λ why stops. stops)

pub returns-clause-follows : goal.returns-clause-follows
returns-clause-follows g c =
    let corners = corners_of g.C.CornerSet.COUNT g.C.CornerSet.number_of g.C.CornerSet.member_of c.args.settings.now.pick in
    subst (λ (annotated : AnnotatedDesign). AnnotatesDesign (g.H.Shelf.held c.args.shelf.now) corners c.args.design c.args.spef.now c.args.settings.now (Go annotated)) (sym c.annotated_of.ensures)
    c.in_ok-delays.ensures.follows
