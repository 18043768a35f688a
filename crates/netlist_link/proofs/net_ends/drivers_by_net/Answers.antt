use Rattle.std.proofs.Common.{◌<◌, ◌∙◌, arith}
use Rattle.netlist_link.proofs.Driving.{drivers_step, one_each, refused_there}
use Rattle.netlist_link.proofs.net_ends.drivers_by_net.Goals as goal

pub loop-n-preserved : goal.loop-n-preserved
loop-n-preserved c =
    let n = c.loop-n.n in
    let driving = c.args.driving.now in
    let below : n < c.len.result = (let end = c.len-n-end.ensures in let len = c.len.ensures in let test = c.loop-n-test.true in omega arith) in
    let on = c.on.ensures c.len.result driving c.in_ok-by_net.ensures below in
    drivers_step driving c.loop-n.drivers.items c.push.new.items.items n c.in-Ok.driver c.loop-n.invariant (c.in-Ok.ensures.alone ∙ on) c.in_ok-push.ensures.ok

pub returns-in-Err-clause-refused : goal.returns-in-Err-clause-refused
returns-in-Err-clause-refused c =
    let n = c.loop-n.n in
    let driving = c.args.driving.now in
    let below : n < c.len.result = (let end = c.len-n-end.ensures in let len = c.len.ensures in let test = c.loop-n-test.true in omega arith) in
    let on = c.on.ensures c.len.result driving c.in_ok-by_net.ensures below in
    refused_there c.args.nets.now driving n c.on.result.now c.in-Err.end c.in-Err.ensures.several on
    (one_each driving c.loop-n.drivers.items n c.loop-n.invariant)
