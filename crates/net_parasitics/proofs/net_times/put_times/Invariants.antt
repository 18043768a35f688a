use Rattle.std.proofs.Common.{◌+◌, ◌*◌, ◌≤◌, length}
use Rattle.net_parasitics.proofs.NetPuts.{AreCornersPut}
use Rattle.net_parasitics.proofs.net_times.put_times.Given as goal

abbrev pub invariant-loop-number : goal.invariant-loop-number
invariant-loop-number g l = AreCornersPut g.C.CornerSet.COUNT l.tree l.fn.delays l.delays l.net l.number × (l.steps ≤ l.fn.steps + l.number * length l.tree.sinks)
