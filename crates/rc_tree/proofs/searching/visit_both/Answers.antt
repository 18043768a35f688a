use Rattle.std.proofs.Common.{sym, subst}
use Rattle.rc_tree.specs.Searches.{IsSearch}
use Rattle.rc_tree.specs.FoundSearch.{search_of}
use Rattle.rc_tree.proofs.Completed.{turned}
use Rattle.rc_tree.proofs.searching.visit_both.Goals as goal

-- src/searching.rt
pub visit-requires-2-clause-search : goal.visit-requires-2-clause-search
visit-requires-2-clause-search c =
    let search = c.in_ok-visit.ensures.search in
    subst (λ n. IsSearch n c.args.tos.now c.args.froms.now (search_of c.visit.new.found)) (sym search.numbers_len) (turned _ c.args.froms.now c.args.tos.now _ c.requires.same search)

pub returns-clause-search : goal.returns-clause-search
returns-clause-search c =
    subst (λ n. IsSearch n c.args.froms.now c.args.tos.now (search_of c.visit-2.new.found)) c.in_ok-visit.ensures.search.numbers_len
    (turned _ c.args.tos.now c.args.froms.now _ (sym c.requires.same) c.in_ok-visit-2.ensures.search)
