-- Where the design stops, and a fault at one of its files; its delays and their work come behind it.
use Rattle.spef_nets.specs.Drafts.{corners_of}
use Rattle.design_phases.specs.DesignReading.{LinkedDesign, ReadsDesign}
use Rattle.design_phases.proofs.LibraryLemmas.{halted, fault_on}
use Rattle.delay_core.specs.AnnotatedDesigns.{AnnotatedDesign}
use Rattle.delay_core.specs.Annotation.{Annotates}
use Rattle.delay_core.specs.TimingHalves.{AnnotatesDesign}
use Rattle.delay_core.proofs.Faults.{input_fault, spef_fault}
use Rattle.delay_core.proofs.Following.{design_refused, design_stops, design_goes}
use Rattle.delay_core.proofs.Work.{files_work}
use Rattle.delay_core.proofs.annotation.annotate.Goals as goal

pub returns-in_err-design-clause-follows : goal.returns-in_err-design-clause-follows
returns-in_err-design-clause-follows g c =
    let corners = corners_of g.C.CornerSet.COUNT g.C.CornerSet.number_of g.C.CornerSet.member_of c.args.settings.now.pick in
    halted LinkedDesign AnnotatedDesign c.from_residual.result c.in_err-design.field-0.0
    (ReadsDesign (g.H.Shelf.held c.args.shelf.now) g.C.CornerSet.COUNT c.args.files.now.netlist c.args.settings.now.top c.args.files.now.libraries)
    (Annotates (g.H.Shelf.held c.args.shelf.now) corners c.args.files.now c.args.settings.now) c.from_residual.ensures.1 c.in_err-design.ensures.follows
    (λ why stops. design_refused (g.H.Shelf.held c.args.shelf.now) corners c.args.files.now c.args.settings.now why stops)

pub returns-in_err-design-clause-fault : goal.returns-in_err-design-clause-fault
returns-in_err-design-clause-fault g c =
    fault_on LinkedDesign AnnotatedDesign c.from_residual.result c.in_err-design.field-0.0 _ _ c.from_residual.ensures.1 c.in_err-design.ensures.fault
    (λ key fault. input_fault (g.H.Shelf.held c.args.shelf.now) g.C.CornerSet.COUNT c.args.files.now _ _ _ _ key c.requires.libraries fault)

pub returns-in_err-annotated-clause-fault : goal.returns-in_err-annotated-clause-fault
returns-in_err-annotated-clause-fault g c =
    fault_on AnnotatedDesign AnnotatedDesign c.from_residual-in_err-annotated.result c.in_err-annotated.field-0.0 _ _ c.from_residual-in_err-annotated.ensures.1 c.in_err-annotated.ensures.fault
    (λ key fault. spef_fault (g.H.Shelf.held c.args.shelf.now) (g.H.Shelf.held c.read_design.new.shelf) g.C.CornerSet.COUNT c.args.files.now _ _ _ _ _ _ key c.requires.libraries c.read_design.ensures.held
    c.read_design.ensures.later c.in_ok-design.ensures.opens fault)

pub returns-in_err-annotated-clause-follows : goal.returns-in_err-annotated-clause-follows
returns-in_err-annotated-clause-follows g c =
    let corners = corners_of g.C.CornerSet.COUNT g.C.CornerSet.number_of g.C.CornerSet.member_of c.args.settings.now.pick in
    halted AnnotatedDesign AnnotatedDesign c.from_residual-in_err-annotated.result c.in_err-annotated.field-0.0
    (AnnotatesDesign (g.H.Shelf.held c.read_design.new.shelf) corners c.in_ok-design.design c.args.files.now.spef c.args.settings.now)
    (Annotates (g.H.Shelf.held c.args.shelf.now) corners c.args.files.now c.args.settings.now) c.from_residual-in_err-annotated.ensures.1 c.in_err-annotated.ensures.follows
    (λ why stops. design_stops (g.H.Shelf.held c.args.shelf.now) corners c.args.files.now c.args.settings.now (g.H.Shelf.held c.read_design.new.shelf) c.in_ok-design.design why
    c.read_design.ensures.held c.in_ok-design.ensures.follows stops)

pub returns-in_err-annotated-clause-steps : goal.returns-in_err-annotated-clause-steps
returns-in_err-annotated-clause-steps g c =
    let corners = corners_of g.C.CornerSet.COUNT g.C.CornerSet.number_of g.C.CornerSet.member_of c.args.settings.now.pick in
    files_work (g.H.Shelf.held c.args.shelf.now) corners c.args.settings.now c.args.files.now (g.H.Shelf.held c.read_design.new.shelf) c.in_ok-design.design c.args.steps.now c.annotate_design.new.steps
    c.read_design.ensures.held c.in_ok-design.ensures.follows c.annotate_design.ensures.steps

pub returns-clause-follows : goal.returns-clause-follows
returns-clause-follows g c =
    let corners = corners_of g.C.CornerSet.COUNT g.C.CornerSet.number_of g.C.CornerSet.member_of c.args.settings.now.pick in
    design_goes (g.H.Shelf.held c.args.shelf.now) corners c.args.files.now c.args.settings.now (g.H.Shelf.held c.read_design.new.shelf) c.in_ok-design.design c.in_ok-annotated.annotated
    c.read_design.ensures.held c.in_ok-design.ensures.follows c.in_ok-annotated.ensures.follows

pub returns-clause-steps : goal.returns-clause-steps
returns-clause-steps g c =
    let corners = corners_of g.C.CornerSet.COUNT g.C.CornerSet.number_of g.C.CornerSet.member_of c.args.settings.now.pick in
    files_work (g.H.Shelf.held c.args.shelf.now) corners c.args.settings.now c.args.files.now (g.H.Shelf.held c.read_design.new.shelf) c.in_ok-design.design c.args.steps.now c.annotate_design.new.steps
    c.read_design.ensures.held c.in_ok-design.ensures.follows c.annotate_design.ensures.steps
