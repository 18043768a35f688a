use Rattle.std.proofs.Common.{length, slice_index}
use Rattle.rc_tree.specs.FoundSearch.{search_of}
use Rattle.rc_tree.proofs.Finding.{Walking}
use Rattle.rc_tree.proofs.searching.visit.Given as goal

abbrev pub invariant-loop-left : goal.invariant-loop-left
invariant-loop-left l = Walking (length l.fn.found.numbers.items) l.near l.far (search_of l.fn.found) (search_of l.found) (slice_index l.fn.found.order.items l.place) l.left

abbrev pub decreases-loop-left : goal.decreases-loop-left
decreases-loop-left l = l.left
