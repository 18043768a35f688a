use Rattle.net_parasitics.specs.NetSteps.{AreFirstTimes}
use Rattle.net_parasitics.specs.WorkCounts.{IsWithin}
use Rattle.net_parasitics.proofs.inputs.NetInputs.put_nets.Given as goal

abbrev pub invariant-loop-net : goal.invariant-loop-net
invariant-loop-net g l = AreFirstTimes l.self l.net l.delays × IsWithin l.self l.net l.fn.steps l.steps
