-- One copy more.
use Rattle.netlist_link.proofs.Pushing.{list_step}
use Rattle.netlist_link.proofs.instance_names.copy_texts.Goals as goal

pub loop-i-preserved : goal.loop-i-preserved
loop-i-preserved c =
    list_step c.args.texts.now c.loop-i.copies _ c.loop-i.i c.text.result.now c.text.ensures c.loop-i.invariant c.in_ok-add.ensures.ok
