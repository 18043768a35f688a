-- A fault at a library comes behind the netlist, and so does the design of its bytes.
use Rattle.design_phases.specs.DesignReading.{LinkedDesign, ReadsDesign, ReadsDesignOf}
use Rattle.design_phases.proofs.DesignLemmas.{library_fault, of_bytes}
use Rattle.design_phases.proofs.LibraryLemmas.{fault_on, halted}
use Rattle.design_phases.proofs.design_reading.read_design.Goals as goal

pub returns-in_err-design-clause-fault : goal.returns-in_err-design-clause-fault
returns-in_err-design-clause-fault g c =
    fault_on LinkedDesign LinkedDesign c.from_residual-in_err-design.result c.in_err-design.field-0.0 _ _ c.from_residual-in_err-design.ensures.1 c.in_err-design.ensures.fault
    (λ key fault. library_fault (g.H.Shelf.held c.args.shelf.now) (g.H.Shelf.held c.read_input.new.shelf) g.C.CornerSet.COUNT c.args.netlist.now c.args.libraries.now _ _ _ _ _ _ key c.read_input.ensures.held c.read_input.ensures.later c.read_input.ensures.opens fault)

pub returns-in_err-design-clause-follows : goal.returns-in_err-design-clause-follows
returns-in_err-design-clause-follows g c =
    halted LinkedDesign LinkedDesign c.from_residual-in_err-design.result c.in_err-design.field-0.0
    (ReadsDesignOf (g.H.Shelf.held c.read_input.new.shelf) g.C.CornerSet.COUNT c.bytes.result.now c.args.top.now c.args.libraries.now)
    (ReadsDesign (g.H.Shelf.held c.args.shelf.now) g.C.CornerSet.COUNT c.args.netlist.now c.args.top.now c.args.libraries.now) c.from_residual-in_err-design.ensures.1 c.in_err-design.ensures.follows
    (λ why follows. of_bytes (g.H.Shelf.held c.args.shelf.now) (g.H.Shelf.held c.read_input.new.shelf) g.C.CornerSet.COUNT c.args.netlist.now c.args.top.now c.args.libraries.now _ _ _ c.read_input.ensures.held c.bytes.ensures
    c.in_ok-text.ensures.follows follows)

pub returns-clause-follows : goal.returns-clause-follows
returns-clause-follows g c =
    of_bytes (g.H.Shelf.held c.args.shelf.now) (g.H.Shelf.held c.read_input.new.shelf) g.C.CornerSet.COUNT c.args.netlist.now c.args.top.now c.args.libraries.now _ _ _ c.read_input.ensures.held c.bytes.ensures
    c.in_ok-text.ensures.follows c.in_ok-design.ensures.follows
