-- The run of the whole is the bytes so far and the run of the rest.
use Rattle.std.proofs.Common.{length, ◌-◌}
use Rattle.token_texts.specs.RunLemmas.{RunSoFar}
use Rattle.token_texts.proofs.runs.run_length.Given as goal

abbrev pub invariant-loop-place : goal.invariant-loop-place
invariant-loop-place g l = RunSoFar g.C.ByteClass.is_in l.bytes l.place

abbrev pub decreases-loop-place : goal.decreases-loop-place
decreases-loop-place g l = length l.bytes - l.place
