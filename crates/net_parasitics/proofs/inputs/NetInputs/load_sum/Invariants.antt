use Rattle.std.proofs.Common.{◌≡◌, ◌*◌, ◌≤◌, take}
use Rattle.std.specs.Prelude.{sum_by}
use Rattle.delay_units.specs.Bounds.{most_farads}
use Rattle.netlist_link.specs.FlatNetlist.{net_at}
use Rattle.net_parasitics.specs.NetPins.{end_load}
use Rattle.net_parasitics.proofs.inputs.NetInputs.load_sum.Given as goal

abbrev pub invariant-loop-sink : goal.invariant-loop-sink
invariant-loop-sink g l =
    (l.sum ≡ sum_by (λ sink. (end_load l.self.netlist l.self.cells l.self.port_load (g.C.CornerSet.number_of l.corner) sink).0) (take l.sink (net_at l.self.netlist l.net).sinks))
    × (l.sum ≤ l.sink * most_farads)
