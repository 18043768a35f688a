-- The end of the text in the whole is that in the rest.
use Rattle.std.proofs.Common.{length, ◌-◌}
use Rattle.token_texts.specs.QuotedLemmas.{EndSoFar}
use Rattle.token_texts.proofs.quoted.quote_end.Given as goal

abbrev pub invariant-loop-place : goal.invariant-loop-place
invariant-loop-place l = EndSoFar l.escape l.rest l.is_taken l.place

abbrev pub decreases-loop-place : goal.decreases-loop-place
decreases-loop-place l = length l.rest - l.place
