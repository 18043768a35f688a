use Rattle.std.proofs.Common.{◌≡◌, map, take}
use Rattle.slew_order.specs.FlatArcs.{driver_of}
use Rattle.slew_order.proofs.flattening.drivers_of.Given as goal

abbrev pub invariant-loop-net : goal.invariant-loop-net
invariant-loop-net l = l.drivers.items ≡ map (λ net. driver_of net.driver) (take l.net l.netlist.nets)
