use Rattle.rc_tree.specs.FoundSearch.{search_of}
use Rattle.rc_tree.proofs.Completed.{Searching}
use Rattle.rc_tree.proofs.searching.spread.Given as goal

abbrev pub invariant-loop-place : goal.invariant-loop-place
invariant-loop-place l = Searching l.nodes l.froms l.tos (search_of l.found) l.place
