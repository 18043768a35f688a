-- The law, as it is proved of the reader.
use Rattle.verilog_netlist.proofs.SoFar.{one_dead_token}
use Rattle.verilog_netlist.proofs.laws.one_dead_token.Goals as goal

pub returns : goal.returns
returns c = record { law = one_dead_token }
