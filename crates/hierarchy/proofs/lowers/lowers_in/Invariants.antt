-- The row so far is that of the instances so far.
use Rattle.std.proofs.Common.{◌≡◌}
use Rattle.hierarchy.specs.Walks.{joined_from}
use Rattle.hierarchy.specs.Lowers.{lower_item}
use Rattle.hierarchy.proofs.lowers.lowers_in.Given as goal

abbrev pub invariant-loop-k : goal.invariant-loop-k
invariant-loop-k l = l.row.items ≡ joined_from (lower_item l.modules l.m) 0 l.k
