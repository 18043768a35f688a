use Rattle.std.proofs.Common.{arith}
use Rattle.netlist_link.proofs.NetlistReading.{net_many}
use Rattle.netlist_link.proofs.netlist.Netlist.net_count.Goals as goal

pub returns-clause-count : goal.returns-clause-count
returns-clause-count c =
    let n = c.self.inside in
    let many = net_many c.args.self.now n.instances n.ports n.net_texts n.drivers.items n.sinks c.self.view_is in let count = c.self.invariant.drivers_count in let len = c.len.ensures in omega arith
