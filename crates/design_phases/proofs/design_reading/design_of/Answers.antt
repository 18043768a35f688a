-- Where the inputs stop, the design stops, and a refusal of the link comes behind them.
use Rattle.design_phases.specs.DesignReading.{LinkedDesign, inputs_of, at_inputs, LinksInputs, at_design, with_design, ReadsDesignOf}
use Rattle.design_phases.specs.declared.design_reading.Inputs.{Inputs}
use Rattle.design_phases.proofs.LibraryLemmas.{stop_follows, lifted_follows}
use Rattle.design_phases.proofs.design_reading.design_of.Goals as goal

pub returns-in_err-inputs-clause-follows : goal.returns-in_err-inputs-clause-follows
returns-in_err-inputs-clause-follows g c =
    stop_follows Inputs LinkedDesign c.from_residual.result c.in_err-inputs.field-0.0 _
    (ReadsDesignOf (g.H.Shelf.held c.args.shelf.now) g.C.CornerSet.COUNT c.args.bytes.now c.args.top.now c.args.libraries.now) c.from_residual.ensures.1 c.in_err-inputs.ensures.stops
    (λ why stops file reads. at_inputs c.args.bytes.now why reads stops)

pub returns-in_err-design-clause-follows : goal.returns-in_err-design-clause-follows
returns-in_err-design-clause-follows g c =
    lifted_follows LinkedDesign LinkedDesign c.from_residual-in_err-design.result c.in_err-design.field-0.0 (LinksInputs (inputs_of c.in_ok-inputs.inputs) c.args.top.now)
    (ReadsDesignOf (g.H.Shelf.held c.args.shelf.now) g.C.CornerSet.COUNT c.args.bytes.now c.args.top.now c.args.libraries.now) c.from_residual-in_err-design.ensures.1 c.in_err-design.ensures.follows
    (λ refusal links file reads. at_design c.args.bytes.now (inputs_of c.in_ok-inputs.inputs) refusal reads c.in_ok-inputs.ensures.ok links)

pub returns-clause-follows : goal.returns-clause-follows
returns-clause-follows g c = λ file reads. with_design c.args.bytes.now (inputs_of c.in_ok-inputs.inputs) c.in_ok-design.design reads c.in_ok-inputs.ensures.ok c.in_ok-design.ensures.follows
