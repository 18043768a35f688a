-- So many digits are dropped.
use Rattle.std.proofs.Common.{◌-◌, ◌≤◌, length, drop}
use Rattle.delay_units.proofs.LiteralReading.{DroppedSoFar}
use Rattle.delay_units.proofs.fronts.behind_digits.Given as goal

abbrev pub invariant-loop-count : goal.invariant-loop-count
invariant-loop-count l = record { within : l.count ≤ length l.text; dropped : DroppedSoFar l.text (drop l.count l.text) }

abbrev pub decreases-loop-count : goal.decreases-loop-count
decreases-loop-count l = length l.text - l.count
