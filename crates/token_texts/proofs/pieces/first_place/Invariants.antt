-- No byte so far is of the class.
use Rattle.std.proofs.Common.{length, ◌-◌}
use Rattle.token_texts.specs.PieceLemmas.{NoneSoFar}
use Rattle.token_texts.proofs.pieces.first_place.Given as goal

abbrev pub invariant-loop-place : goal.invariant-loop-place
invariant-loop-place g l = NoneSoFar g.C.ByteClass.is_in l.bytes l.place

abbrev pub decreases-loop-place : goal.decreases-loop-place
decreases-loop-place g l = length l.bytes - l.place
