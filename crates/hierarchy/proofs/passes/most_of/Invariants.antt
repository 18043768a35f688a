-- The most of the values so far.
use Rattle.std.proofs.Common.{map}
use Rattle.hierarchy.specs.Passes.{value_at, IsMost}
use Rattle.hierarchy.proofs.passes.most_of.Given as goal

abbrev pub invariant-loop-m : goal.invariant-loop-m
invariant-loop-m l = IsMost (map (value_at l.values) l.row) l.m-index l.most
