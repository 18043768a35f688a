-- The law, as it is proved of the least fault.
use Rattle.verilog_netlist.proofs.Faulting.{one_first}
use Rattle.verilog_netlist.proofs.laws.one_first_fault.Goals as goal

pub returns : goal.returns
returns c = record { law = one_first }
