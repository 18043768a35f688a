use Rattle.std.proofs.Common.{◌+◌, ◌≤◌}
use Rattle.rc_tree.proofs.Numbers.{Copying}
use Rattle.rc_tree.proofs.numbering.copy_ends.Given as goal

abbrev pub invariant-loop-place : goal.invariant-loop-place
invariant-loop-place g l = record {
  ends : Copying l.section l.spots l.ends.froms.items l.ends.tos.items l.place;
  steps : l.steps ≤ l.fn.steps + l.place;
}
