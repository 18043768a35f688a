-- The table is held against the definition at each of the 256 bytes, by computing.
use Rattle.std.proofs.Common.{refl, arith}
use Rattle.edge_io.specs.ByteTables.{agree_below, from_table}
use Rattle.verilog_netlist.specs.Tokens.{goes_on_name}
use Rattle.verilog_netlist.specs.declared.scan.TheConstants.{NAME_BYTES}
use Rattle.verilog_netlist.proofs.scan.InNameByteClass.has.Goals as goal

pub returns : goal.returns
unfolding agree_below
returns c = from_table NAME_BYTES goes_on_name c.args.byte (omega arith) refl
