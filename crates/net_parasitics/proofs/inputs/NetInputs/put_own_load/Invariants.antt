use Rattle.net_parasitics.proofs.NetPuts.{AreOwnLoads}
use Rattle.net_parasitics.proofs.inputs.NetInputs.put_own_load.Given as goal

abbrev pub invariant-loop-number : goal.invariant-loop-number
invariant-loop-number g l = AreOwnLoads l.self g.C.CornerSet.COUNT l.fn.delays l.delays l.net l.number
