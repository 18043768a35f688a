-- The blanks so far have been read.
use Rattle.std.proofs.Common.{◌-◌, ◌≤◌, ℕ, List, length, drop}
use Rattle.liberty_groups.specs.Feeding.{CanGoOn, HasRead}
use Rattle.liberty_groups.proofs.Feeding.{behind_blanks}
use Rattle.liberty_groups.proofs.progress.Progress.pass_blanks.Given as goal

abbrev pub invariant-loop-place : goal.invariant-loop-place
invariant-loop-place l = record {
  within : l.place ≤ length l.bytes;
  goes_on : CanGoOn (behind_blanks l.self l.fresh l.place);
  read : (all : List ℕ) → HasRead all l.bytes l.self → HasRead all (drop l.place l.bytes) (behind_blanks l.self l.fresh l.place);
}

abbrev pub decreases-loop-place : goal.decreases-loop-place
decreases-loop-place l = length l.bytes - l.place
