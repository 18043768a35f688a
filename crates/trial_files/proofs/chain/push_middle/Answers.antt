-- The head, the capacitances, the resistors and the end stand one after another.
use Rattle.std.proofs.Common.{codes}
use Rattle.trial_files.specs.ChainSpef.{chain_head, chain_caps, chain_resistors}
use Rattle.trial_files.proofs.Pushes.{four_pushed}
use Rattle.trial_files.proofs.chain.push_middle.Goals as goal

pub returns : goal.returns
returns c =
    four_pushed c.args.text.now (chain_head c.args.size) (chain_caps c.args.size) (chain_resistors c.args.size) (codes "*END\n")
    c.in_ok-push_numbered.ensures c.in_ok-push_caps.ensures c.in_ok-push_resistors.ensures c.in_ok-push_all.ensures.ok
