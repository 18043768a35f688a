-- The connections so far.
use Rattle.std.proofs.Common.{◌≡◌, length, take, min, sum_by}
use Rattle.verilog_netlist.specs.NetModules.{module_at}
use Rattle.hierarchy.specs.Passes.{cap}
use Rattle.hierarchy.proofs.passes.connections.Given as goal

abbrev pub invariant-loop-k : goal.invariant-loop-k
invariant-loop-k l = l.total ≡ min cap (sum_by (λ instance. length instance.connections) (take l.k (module_at l.modules l.m).instances))
