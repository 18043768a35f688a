-- A refusal of the link comes behind the models of the cells.
use Rattle.netlist_link.specs.FlatNetlist.{FlatNetlist}
use Rattle.design_phases.specs.DesignReading.{LinkedDesign, inputs_of, LinksInputs, at_link}
use Rattle.design_phases.specs.LinkPhase.{LinksDesign}
use Rattle.design_phases.proofs.LibraryLemmas.{no_file_on}
use Rattle.design_phases.proofs.design_reading.link_inputs.Goals as goal

pub returns-in_err-netlist : goal.returns-in_err-netlist
returns-in_err-netlist g c = record {
  follows = no_file_on FlatNetlist LinkedDesign c.from_residual-in_err-netlist.result c.in_err-netlist.field-0.0 (LinksDesign c.args.inputs.now.modules c.args.top.now c.in_ok-cells.cells)
      (LinksInputs (inputs_of c.args.inputs.now) c.args.top.now) c.from_residual-in_err-netlist.ensures.1 c.in_err-netlist.ensures.follows
      (λ refusal links. at_link c.in_ok-cells.cells refusal c.in_ok-cells.ensures.follows links);
}
