-- The bits so far.
use Rattle.std.proofs.Common.{◌≡◌, take, min, sum_by}
use Rattle.verilog_netlist.specs.NetModules.{module_at}
use Rattle.verilog_netlist.specs.Ranges.{whole_width}
use Rattle.hierarchy.specs.Passes.{cap}
use Rattle.hierarchy.proofs.passes.name_bits.Given as goal

abbrev pub invariant-loop-i : goal.invariant-loop-i
invariant-loop-i l = l.bits ≡ min cap (sum_by (λ name. whole_width name.range) (take l.i (module_at l.modules l.m).names))
