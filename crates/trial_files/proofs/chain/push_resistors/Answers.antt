-- One more stands at the end.
use Rattle.std.proofs.Common.{◌+◌, codes, arith}
use Rattle.trial_files.specs.ChainSpef.{chain_resistor}
use Rattle.trial_files.proofs.Ranges.{text_more}
use Rattle.trial_files.proofs.chain.push_resistors.Goals as goal

pub loop-before-preserved : goal.loop-before-preserved
loop-before-preserved c =
    text_more (chain_resistor c.args.size) 1 c.loop-before.before (c.loop-before.before + 1)
    c.args.text.now (codes "*RES\n") (omega arith) c.loop-before.invariant c.in_ok-push_resistor.ensures
