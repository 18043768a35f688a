-- One more stands at the end.
use Rattle.std.proofs.Common.{◌+◌, codes, arith}
use Rattle.trial_files.specs.ChainSpef.{chain_cap}
use Rattle.trial_files.proofs.Ranges.{text_more}
use Rattle.trial_files.proofs.chain.push_caps.Goals as goal

pub loop-k-preserved : goal.loop-k-preserved
loop-k-preserved c =
    text_more (chain_cap c.args.size) 1 c.loop-k.k (c.loop-k.k + 1)
    c.args.text.now (codes "*CAP\n") (omega arith) c.loop-k.invariant c.in_ok-push_cap.ensures
