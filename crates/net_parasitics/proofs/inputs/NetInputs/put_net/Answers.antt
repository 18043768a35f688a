use Rattle.net_parasitics.proofs.TreeTimes.{unwired_work}
use Rattle.net_parasitics.proofs.inputs.NetInputs.put_net.Goals as goal

-- src/nets.rt
pub returns-in-None-clause-work : goal.returns-in-None-clause-work
returns-in-None-clause-work g c = unwired_work c.args.self.now c.args.net c.args.steps.now c.in-None.ensures.unwired
