-- How far the digits so far are from each other.
use Rattle.verilog_netlist.proofs.Bounds.{DistanceSoFar}
use Rattle.verilog_netlist.proofs.scan.distance.Given as goal

abbrev pub invariant-loop-place : goal.invariant-loop-place
invariant-loop-place l = DistanceSoFar l.longer l.shorter l.rest l.above l.below l.place
