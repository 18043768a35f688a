use Rattle.std.proofs.Common.{◌≤◌}
use Rattle.delay_units.specs.Bounds.{most_farads}
use Rattle.delay_units.specs.declared.quantities.Farads.{Farads}
use Rattle.net_parasitics.specs.NetPins.{end_load}
use Rattle.net_parasitics.proofs.Lists.{AreFilled}
use Rattle.net_parasitics.proofs.inputs.NetInputs.put_loads.Given as goal

-- the loads at the first corners stand at their places
abbrev pub invariant-loop-number : goal.invariant-loop-number
invariant-loop-number g l = AreFilled (λ (load : Farads). load.0 ≤ most_farads) (λ corner. end_load l.self.netlist l.self.cells l.self.port_load corner l.end) (record { 0 = 0 })
    g.C.CornerSet.COUNT l.number l.row.values
