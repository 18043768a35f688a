use Rattle.std.proofs.Common.{length}
use Rattle.netlist_link.specs.FlatNetlist.{net_at}
use Rattle.net_delays.proofs.Starts.{SumsSoFar}
use Rattle.net_delays.proofs.net_delays.starts_of.Given as goal

abbrev pub invariant-loop-net : goal.invariant-loop-net
invariant-loop-net l = SumsSoFar (λ net. length (net_at l.netlist net).sinks) l.starts.items l.sinks l.net
