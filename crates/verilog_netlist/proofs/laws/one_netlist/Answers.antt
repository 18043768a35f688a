-- The law, as it is proved of the reader.
use Rattle.verilog_netlist.proofs.SoFar.{one_netlist}
use Rattle.verilog_netlist.proofs.laws.one_netlist.Goals as goal

pub returns : goal.returns
returns c = record { law = one_netlist }
