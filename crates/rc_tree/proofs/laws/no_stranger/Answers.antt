use Rattle.rc_tree.proofs.ListedLemmas.{no_stranger}
use Rattle.rc_tree.proofs.laws.no_stranger.Goals as goal

-- src/laws.rt
pub returns : goal.returns
returns c = no_stranger
