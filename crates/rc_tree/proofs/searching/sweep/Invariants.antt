use Rattle.std.proofs.Common.{length}
use Rattle.rc_tree.specs.Searches.{IsSearch}
use Rattle.rc_tree.specs.FoundSearch.{search_of}
use Rattle.rc_tree.proofs.searching.sweep.Given as goal

abbrev pub invariant-loop-resistor : goal.invariant-loop-resistor
invariant-loop-resistor l = IsSearch (length l.fn.found.numbers.items) l.froms l.tos (search_of l.found)
