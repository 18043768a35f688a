use Rattle.std.proofs.Common.{◌^◌, ◌≤◌, ◌-◌, ◌*◌, ◌<◌}
use Rattle.wire_slews.proofs.roots.root.Given as goal

-- the root is from the one to below the other
abbrev pub invariant-loop-high : goal.invariant-loop-high
invariant-loop-high l = record {
  order : l.low < l.high;
  small : l.high ≤ 4 * 10 ^ 12;
  least : l.low * l.low ≤ l.n;
  most : l.n < l.high * l.high;
}

abbrev pub decreases-loop-high : goal.decreases-loop-high
decreases-loop-high l = l.high - l.low
