-- The modules so far have their totals.
use Rattle.std.proofs.Common.{◌≤◌, All}
use Rattle.hierarchy.specs.Passes.{IsPassed, IsTotal, cap}
use Rattle.hierarchy.proofs.passes.totals_of.Given as goal

abbrev pub invariant-loop-m : goal.invariant-loop-m
invariant-loop-m l = record {
  passed : IsPassed l.lowers l.order (IsTotal l.modules l.count) l.totals.items l.m-index;
  few : All (λ total. total ≤ cap) l.totals.items;
}
