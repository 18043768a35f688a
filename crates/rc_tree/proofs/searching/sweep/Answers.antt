use Rattle.std.proofs.Common.{◌<◌, All, sym, subst}
use Rattle.rc_tree.specs.Searches.{IsSearch}
use Rattle.rc_tree.specs.FoundSearch.{search_of}
use Rattle.rc_tree.proofs.searching.sweep.Goals as goal

-- src/searching.rt
pub cross-requires-clause-search : goal.cross-requires-clause-search
cross-requires-clause-search c =
    let search = c.loop-resistor.invariant in
    subst (λ n. IsSearch n c.args.froms.now c.args.tos.now (search_of c.loop-resistor.found)) (sym search.numbers_len) search

pub cross-requires-clause-froms : goal.cross-requires-clause-froms
cross-requires-clause-froms c = subst (λ n. All (λ node. node < n) c.args.froms.now) (sym c.loop-resistor.invariant.numbers_len) c.requires.froms

pub cross-requires-clause-tos : goal.cross-requires-clause-tos
cross-requires-clause-tos c = subst (λ n. All (λ node. node < n) c.args.tos.now) (sym c.loop-resistor.invariant.numbers_len) c.requires.tos

pub loop-resistor-preserved : goal.loop-resistor-preserved
loop-resistor-preserved c =
    subst (λ n. IsSearch n c.args.froms.now c.args.tos.now (search_of c.cross.new.found)) c.loop-resistor.invariant.numbers_len c.in_ok-cross.ensures
