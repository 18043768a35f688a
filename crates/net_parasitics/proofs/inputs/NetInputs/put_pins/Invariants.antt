use Rattle.std.proofs.Common.{◌≡◌, length, take}
use Rattle.netlist_link.specs.FlatNetlist.{net_at}
use Rattle.net_parasitics.specs.NetPins.{pins_to}
use Rattle.net_parasitics.proofs.inputs.NetInputs.put_pins.Given as goal

abbrev pub invariant-loop-sink : goal.invariant-loop-sink
invariant-loop-sink g l = (length l.row.values ≡ g.C.CornerSet.COUNT) × (l.pins ≡ pins_to l.self l.driver (take l.sink (net_at l.self.netlist l.net).sinks))
