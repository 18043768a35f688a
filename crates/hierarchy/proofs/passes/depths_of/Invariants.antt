-- The modules so far have their depths, which are at most as many as these modules.
use Rattle.std.proofs.Common.{◌≤◌, All}
use Rattle.hierarchy.specs.Passes.{IsPassed, IsDepth}
use Rattle.hierarchy.proofs.passes.depths_of.Given as goal

abbrev pub invariant-loop-m : goal.invariant-loop-m
invariant-loop-m l = record {
  passed : IsPassed l.lowers l.order IsDepth l.depths.items l.m-index;
  few : All (λ depth. depth ≤ l.m-index) l.depths.items;
}
