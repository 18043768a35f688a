use Rattle.std.proofs.Common.{◌+◌, ◌≤◌}
use Rattle.net_parasitics.proofs.NetPuts.{ArePut}
use Rattle.net_parasitics.proofs.net_times.put_times_at.Given as goal

abbrev pub invariant-loop-sink : goal.invariant-loop-sink
invariant-loop-sink g l = ArePut g.C.CornerSet.COUNT l.tree l.fn.delays l.delays l.net (g.C.CornerSet.number_of l.corner) l.sink × (l.steps ≤ l.fn.steps + l.sink)
