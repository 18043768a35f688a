use Rattle.std.proofs.Common.{arith, subst}
use Rattle.rc_tree.specs.Searches.{IsSearch}
use Rattle.rc_tree.specs.FoundSearch.{search_of}
use Rattle.rc_tree.proofs.Completed.{searching_start, searching_step, searching_end}
use Rattle.rc_tree.proofs.searching.spread.Goals as goal

-- src/searching.rt
pub loop-place-init : goal.loop-place-init
loop-place-init c = searching_start c.args.nodes c.args.froms.now c.args.tos.now (search_of c.args.found.now) c.requires.search

pub loop-place-preserved : goal.loop-place-preserved
loop-place-preserved c =
    let ensures = c.in_ok-visit_both.ensures in
    searching_step c.args.nodes c.args.froms.now c.args.tos.now (search_of c.loop-place.found) (search_of c.visit_both.new.found) c.loop-place.place
    (subst (λ n. IsSearch n c.args.froms.now c.args.tos.now (search_of c.visit_both.new.found)) c.loop-place.invariant.search.numbers_len ensures.search)
    ensures.grown ensures.past ensures.at_froms ensures.at_tos c.loop-place.invariant

pub returns-clause-closed : goal.returns-clause-closed
returns-clause-closed c =
    searching_end c.args.nodes c.args.froms.now c.args.tos.now (search_of c.loop-place.found) c.loop-place.place c.requires.same (omega (arith, c.loop-place-test.false)) c.loop-place.invariant
