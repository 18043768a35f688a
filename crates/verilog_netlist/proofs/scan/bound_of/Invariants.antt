-- The value of the digits so far, cut down to one past the largest bound.
use Rattle.verilog_netlist.proofs.Bounds.{ValueSoFar}
use Rattle.verilog_netlist.proofs.scan.bound_of.Given as goal

abbrev pub invariant-loop-digit : goal.invariant-loop-digit
invariant-loop-digit l = ValueSoFar l.digits l.value l.digit-index
