-- What the whole says is the text so far, and what the rest says.
use Rattle.std.proofs.Common.{length, ◌-◌}
use Rattle.liberty_groups.proofs.Saying.{SaidSoFar}
use Rattle.liberty_groups.proofs.texts.unescaped.Given as goal

abbrev pub invariant-loop-place : goal.invariant-loop-place
invariant-loop-place l = SaidSoFar l.raw l.text l.place

abbrev pub decreases-loop-place : goal.decreases-loop-place
decreases-loop-place l = length l.raw - l.place
