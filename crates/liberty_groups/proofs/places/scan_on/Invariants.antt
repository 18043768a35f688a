-- The bytes so far have led to what is shown now.
use Rattle.std.proofs.Common.{◌≡◌, ℕ, ◌+◌, ◌≤◌, List, ◌++◌, length, drop}
use Rattle.liberty_groups.specs.Places.{scanned, IsOpenWithin}
use Rattle.liberty_groups.proofs.places.scan_on.Given as goal

abbrev pub invariant-loop-byte : goal.invariant-loop-byte
invariant-loop-byte l = record {
  within : l.byte-index ≤ length l.bytes;
  count : l.passed ≡ l.count + l.byte-index;
  opened : IsOpenWithin l.passed l.now;
  so_far : (more : List ℕ) → scanned l.fn.scan l.count (l.bytes ++ more) ≡ scanned l.now l.passed (drop l.byte-index l.bytes ++ more);
}
