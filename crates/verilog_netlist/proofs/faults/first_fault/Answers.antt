-- The least of the three.
use Rattle.std.proofs.Common.{Option, sym, ap, ◌∙◌, subst}
use Rattle.verilog_netlist.specs.Faults.{FindsFault, or_earlier}
use Rattle.verilog_netlist.specs.declared.faults.FirstFault.{FirstFault}
use Rattle.verilog_netlist.specs.declared.faults.NameFault.TheVariants as fault
use Rattle.verilog_netlist.proofs.Faulting.{finds_first}
use Rattle.verilog_netlist.proofs.faults.first_fault.Goals as goal

pub returns : goal.returns
returns c =
    let repeated = c.in_ok-repeated.repeated in
    let unpaired = c.first_unpaired-unpaired.result in
    let bad_range = c.first_bad_range-bad_range.result in
    let two = c.or_earlier-found-2.ensures ∙ ap (λ (f : Option FirstFault). or_earlier f fault.PortDirection unpaired) c.or_earlier-found.ensures in
    let is = c.or_earlier.ensures ∙ ap (λ (f : Option FirstFault). or_earlier f fault.BadRange bad_range) two in
    subst (λ (f : Option FirstFault). FindsFault c.args.bytes.now c.args.entries.now f) (sym is)
    (finds_first c.args.bytes.now c.args.entries.now repeated unpaired bad_range c.in_ok-repeated.ensures.repeated c.first_unpaired-unpaired.ensures c.first_bad_range-bad_range.ensures)
