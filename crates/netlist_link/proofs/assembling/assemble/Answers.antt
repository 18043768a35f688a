use Rattle.netlist_link.proofs.FaultlessJoints.{faultless_joints}
use Rattle.netlist_link.proofs.assembling.assemble.Goals as goal

pub join_nets-requires-clause-faultless : goal.join_nets-requires-clause-faultless
join_nets-requires-clause-faultless c = faultless_joints c.args.design.now _ _ _ c.requires.joints
