use Rattle.std.proofs.Common.{take, length}
use Rattle.netlist_link.specs.KeptEnds.{AreDrivers}
use Rattle.netlist_link.proofs.net_ends.keep_drivers.Given as goal

abbrev pub invariant-loop-end : goal.invariant-loop-end
invariant-loop-end l = AreDrivers (length l.fn.drivers) (take l.end-index l.driving) l.drivers
