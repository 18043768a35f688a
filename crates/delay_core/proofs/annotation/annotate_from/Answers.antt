-- What the design gets comes behind the linked inputs, and so does its work.
use Rattle.spef_nets.specs.Drafts.{corners_of}
use Rattle.design_phases.specs.DesignReading.{inputs_of}
use Rattle.design_phases.proofs.LibraryLemmas.{halted}
use Rattle.delay_core.specs.AnnotatedDesigns.{AnnotatedDesign}
use Rattle.delay_core.specs.Annotation.{AnnotatesFrom}
use Rattle.delay_core.specs.TimingHalves.{AnnotatesDesign}
use Rattle.delay_core.proofs.Work.{inputs_work}
use Rattle.delay_core.proofs.annotation.annotate_from.Goals as goal

pub returns-in_err-annotated-clause-follows : goal.returns-in_err-annotated-clause-follows
returns-in_err-annotated-clause-follows g c =
    let corners = corners_of g.C.CornerSet.COUNT g.C.CornerSet.number_of g.C.CornerSet.member_of c.args.settings.now.pick in
    halted AnnotatedDesign AnnotatedDesign c.from_residual-in_err-annotated.result c.in_err-annotated.field-0.0
    (AnnotatesDesign (g.H.Shelf.held c.args.shelf.now) corners c.in_ok-design.design c.args.files.now.spef c.args.settings.now)
    (AnnotatesFrom (g.H.Shelf.held c.args.shelf.now) corners (inputs_of c.args.inputs.now) c.args.files.now.spef c.args.settings.now) c.from_residual-in_err-annotated.ensures.1 c.in_err-annotated.ensures.follows
    (λ why stops. stops (inputs_of c.args.inputs.now) c.in_ok-design.ensures.follows)

pub returns-in_err-annotated-clause-steps : goal.returns-in_err-annotated-clause-steps
returns-in_err-annotated-clause-steps g c =
    let corners = corners_of g.C.CornerSet.COUNT g.C.CornerSet.number_of g.C.CornerSet.member_of c.args.settings.now.pick in
    inputs_work (g.H.Shelf.held c.args.shelf.now) corners c.args.settings.now (inputs_of c.args.inputs.now) c.args.files.now.spef c.in_ok-design.design c.args.steps.now c.annotate_design.new.steps
    c.in_ok-design.ensures.follows c.annotate_design.ensures.steps

pub returns-clause-follows : goal.returns-clause-follows
returns-clause-follows g c = c.in_ok-annotated.ensures.follows (inputs_of c.args.inputs.now) c.in_ok-design.ensures.follows

pub returns-clause-steps : goal.returns-clause-steps
returns-clause-steps g c =
    let corners = corners_of g.C.CornerSet.COUNT g.C.CornerSet.number_of g.C.CornerSet.member_of c.args.settings.now.pick in
    inputs_work (g.H.Shelf.held c.args.shelf.now) corners c.args.settings.now (inputs_of c.args.inputs.now) c.args.files.now.spef c.in_ok-design.design c.args.steps.now c.annotate_design.new.steps
    c.in_ok-design.ensures.follows c.annotate_design.ensures.steps
