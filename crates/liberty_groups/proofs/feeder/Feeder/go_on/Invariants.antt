-- What has been read of any file, and what waits.
use Rattle.std.proofs.Common.{◌≡◌, ℕ, ◌+◌, ◌<◌, ◌≤◌, List, ◌++◌, length}
use Rattle.liberty_groups.specs.Places.{IsOpenWithin}
use Rattle.liberty_groups.specs.Feeding.{CanGoOn, HasShown, HasReadTo}
use Rattle.liberty_groups.proofs.feeder.Feeder.go_on.Given as goal

abbrev pub invariant-loop-now : goal.invariant-loop-now
invariant-loop-now l = record {
  size : l.self.progress.start + length l.self.waiting.items + length l.rest
      ≡ l.fn.self.progress.start + length l.fn.self.waiting.items + length l.piece;
  left : length l.rest ≤ length l.piece;
  goes_on : CanGoOn l.self.progress;
  lines : l.self.line ≤ l.self.progress.start + 1;
  shown : HasShown l.self.waiting.items l.now;
  within : 0 < length l.self.waiting.items → IsOpenWithin (length l.self.waiting.items) l.now;
  read : (all : List ℕ) → HasReadTo all (l.fn.self.waiting.items ++ l.piece) l.fn.self.progress l.fn.self.line
      → HasReadTo all (l.self.waiting.items ++ l.rest) l.self.progress l.self.line;
}

abbrev pub decreases-loop-now : goal.decreases-loop-now
decreases-loop-now l = length l.self.waiting.items + length l.rest
