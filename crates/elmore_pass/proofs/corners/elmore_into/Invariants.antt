use Rattle.std.proofs.Common.{◌≡◌, ℕ, ◌+◌, ◌*◌, ◌<◌, ◌≤◌, length}
use Rattle.rc_tree.specs.Arenas.{node_count, parent_of}
use Rattle.rc_tree.specs.TreeSums.{delay_of}
use Rattle.elmore_pass.specs.Columns.{column, farads_of, ohms_of}
use Rattle.elmore_pass.proofs.corners.elmore_into.Given as goal

-- the delays of the first corners are there
abbrev pub invariant-loop-number : goal.invariant-loop-number
invariant-loop-number g l = record {
  delays : (number node : ℕ) → number < l.number → node < node_count l.tree → column g.C.CornerSet.COUNT l.scratch number node
      ≡ delay_of (parent_of l.tree) (node_count l.tree) (ohms_of g.C.CornerSet.COUNT l.tree number) (farads_of g.C.CornerSet.COUNT l.tree number) node;
  size : length l.scratch ≡ length l.fn.scratch;
  steps : l.steps ≤ l.fn.steps + 11 * (l.number * node_count l.tree);
}
