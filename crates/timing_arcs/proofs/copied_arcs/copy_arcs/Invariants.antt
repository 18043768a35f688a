-- The arcs from the start on, so far.
use Rattle.std.proofs.Common.{◌≡◌, ◌≤◌, ◌++◌, ◌-◌, map, take, drop}
use Rattle.timing_arcs.specs.CopiedArcs.{led_to}
use Rattle.timing_arcs.proofs.copied_arcs.copy_arcs.Given as goal

abbrev pub invariant-loop-place : goal.invariant-loop-place
invariant-loop-place l = record {
  from : l.start ≤ l.place;
  arcs : l.arcs.items ≡ l.initial.arcs.items ++ map (led_to l.to) (take (l.place - l.start) (drop l.start l.initial.arcs.items));
}
