use Rattle.std.proofs.Common.{length}
use Rattle.netlist_link.specs.FlatNetlist.{instance_at}
use Rattle.net_delays.proofs.Starts.{SumsSoFar}
use Rattle.slew_order.proofs.sinks.pin_starts.Given as goal

abbrev pub invariant-loop-instance : goal.invariant-loop-instance
invariant-loop-instance l = SumsSoFar (λ instance. length (instance_at l.netlist instance).nets) l.starts.items l.pins l.instance
