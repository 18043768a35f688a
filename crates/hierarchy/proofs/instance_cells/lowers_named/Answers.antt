-- The module of a name goes behind those before.
use Rattle.hierarchy.proofs.Numbers.{lowers_more, lower_is}
use Rattle.hierarchy.proofs.instance_cells.lowers_named.Goals as goal

pub loop-n-preserved : goal.loop-n-preserved
loop-n-preserved c =
    let modules = c.args.modules.now in
    let found = c.find_module-lower in
    lowers_more modules c.args.names.now c.loop-n.n c.loop-n.lowers.items c.push.new.items.items c.text.result.now found.result c.loop-n.invariant
    c.text.ensures.text (lower_is modules c.text.result.now found.result found.ensures.named found.ensures.within found.ensures.none) c.in_ok-push.ensures.ok
