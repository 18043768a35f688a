-- The line ends so far and those of the rest are those of the whole.
use Rattle.std.proofs.Common.{◌-◌, length}
use Rattle.liberty_groups.proofs.Lines.{LinesSoFar}
use Rattle.liberty_groups.proofs.feeder.line_at.Given as goal

abbrev pub invariant-loop-end : goal.invariant-loop-end
invariant-loop-end l = LinesSoFar l.before l.line l.index

abbrev pub decreases-loop-end : goal.decreases-loop-end
decreases-loop-end l = length l.before - l.index
