-- The last of the name among those so far.
use Rattle.std.proofs.Common.{◌≤◌, ◌-◌, length}
use Rattle.liberty_groups.proofs.Lasting.{LastSoFar}
use Rattle.liberty_groups.proofs.tree.last_of.Given as goal

abbrev pub invariant-loop-place : goal.invariant-loop-place
invariant-loop-place l = record {
  within : l.place ≤ length l.rows;
  last : LastSoFar l.names l.key l.rows l.place l.found;
}

abbrev pub decreases-loop-place : goal.decreases-loop-place
decreases-loop-place l = length l.rows - l.place
