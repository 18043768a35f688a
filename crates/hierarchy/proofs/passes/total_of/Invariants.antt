-- The total so far.
use Rattle.std.proofs.Common.{◌≡◌, ◌+◌, map, take, min, sum}
use Rattle.hierarchy.specs.Passes.{value_at, cap}
use Rattle.hierarchy.proofs.passes.total_of.Given as goal

abbrev pub invariant-loop-m : goal.invariant-loop-m
invariant-loop-m l = l.total ≡ min cap (l.own + sum (take l.m-index (map (value_at l.values) l.row)))
