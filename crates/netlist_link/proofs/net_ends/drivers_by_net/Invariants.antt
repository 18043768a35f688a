use Rattle.netlist_link.specs.KeptEnds.{AreDrivers}
use Rattle.netlist_link.proofs.net_ends.drivers_by_net.Given as goal

abbrev pub invariant-loop-n : goal.invariant-loop-n
invariant-loop-n l = AreDrivers l.n l.driving l.drivers.items
