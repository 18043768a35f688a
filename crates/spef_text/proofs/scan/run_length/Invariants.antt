-- The run of the whole is the bytes so far and the run of the rest.
use Rattle.std.proofs.Common.{length, ◌-◌}
use Rattle.token_texts.specs.RunLemmas.{EscapedSoFar}
use Rattle.spef_text.specs.Tokens.{is_solid}
use Rattle.spef_text.proofs.scan.run_length.Given as goal

abbrev pub invariant-loop-place : goal.invariant-loop-place
invariant-loop-place l = EscapedSoFar is_solid l.bytes l.place

abbrev pub decreases-loop-place : goal.decreases-loop-place
decreases-loop-place l = length l.bytes - l.place
