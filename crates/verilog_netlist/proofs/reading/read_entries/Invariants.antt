-- The tokens so far, and the state behind them.
use Rattle.std.proofs.Common.{length}
use Rattle.verilog_netlist.specs.ReaderStates.{state_of}
use Rattle.verilog_netlist.proofs.SoFar.{ReadTo}
use Rattle.verilog_netlist.proofs.reading.read_entries.Given as goal

abbrev pub invariant-loop-rest : goal.invariant-loop-rest
invariant-loop-rest l = ReadTo l.bytes l.rest l.start l.number (state_of l.reader)

abbrev pub decreases-loop-rest : goal.decreases-loop-rest
decreases-loop-rest l = length l.rest
