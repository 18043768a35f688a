use Rattle.std.proofs.Common.{arith}
use Rattle.netlist_link.proofs.NetlistReading.{instance_many}
use Rattle.netlist_link.proofs.netlist.Netlist.instance_count.Goals as goal

pub returns-clause-count : goal.returns-clause-count
returns-clause-count c = let n = c.self.inside in let many = instance_many c.args.self.now n.instances n.ports n.net_texts n.drivers.items n.sinks c.self.view_is in let len = c.len.ensures in omega arith
