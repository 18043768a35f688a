-- What has been read of any file, and what is left of the bytes.
use Rattle.std.proofs.Common.{◌≡◌, ℕ, ◌+◌, ◌≤◌, List, length}
use Rattle.liberty_groups.specs.Feeding.{CanGoOn, HasRead}
use Rattle.liberty_groups.proofs.progress.Progress.read.Given as goal

abbrev pub invariant-loop-rest : goal.invariant-loop-rest
invariant-loop-rest l = record {
  size : l.self.start + length l.rest ≡ l.fn.self.start + length l.bytes;
  shorter : length l.rest ≤ length l.bytes;
  goes_on : CanGoOn l.self;
  read : (all : List ℕ) → HasRead all l.bytes l.fn.self → HasRead all l.rest l.self;
}

abbrev pub decreases-loop-rest : goal.decreases-loop-rest
decreases-loop-rest l = length l.rest
