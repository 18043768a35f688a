-- One more stands at the end.
use Rattle.std.proofs.Common.{[], arith}
use Rattle.trial_files.specs.BlockSpef.{block_section}
use Rattle.trial_files.proofs.Ranges.{text_more}
use Rattle.trial_files.proofs.block_spef.push_sections.Goals as goal

pub loop-k-preserved : goal.loop-k-preserved
loop-k-preserved c =
    text_more (block_section c.args.size) 0 c.loop-k.k c.loop-k.k
    c.args.text.now [] (omega arith) c.loop-k.invariant c.in_ok-push_section.ensures
