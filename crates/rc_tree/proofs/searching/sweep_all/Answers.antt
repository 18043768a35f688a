use Rattle.std.proofs.Common.{subst, arith}
use Rattle.rc_tree.specs.Searches.{IsSearch}
use Rattle.rc_tree.specs.FoundSearch.{search_of}
use Rattle.rc_tree.proofs.Finding.{closed_whole}
use Rattle.rc_tree.proofs.searching.sweep_all.Goals as goal

-- src/searching.rt
pub returns-clause-closed : goal.returns-clause-closed
returns-clause-closed c = λ all.
    closed_whole c.args.nodes c.args.froms.now c.args.tos.now (search_of c.sweep.new.found)
    (subst (λ n. IsSearch n c.args.froms.now c.args.tos.now (search_of c.sweep.new.found)) c.requires.search.numbers_len c.in_ok-sweep.ensures) (omega (arith, c.len.ensures, c.sweep.new.found.order.ok.0, c.if-len-nodes.false)) c.requires.same c.requires.froms c.requires.tos
