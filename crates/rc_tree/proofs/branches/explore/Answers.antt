use Rattle.rc_tree.specs.FoundSearch.{search_of}
use Rattle.rc_tree.proofs.Judging.{froms_within, tos_within, explored_so}
use Rattle.rc_tree.proofs.branches.explore.Goals as goal

-- src/branches.rt
pub search-requires-clause-froms : goal.search-requires-clause-froms
search-requires-clause-froms g c =
    froms_within c.args.section.now c.args.numbered.now.spots.items c.deref.result.now c.copy_ends.new.ends.froms.items c.deref-2.result.now c.copy_ends.new.ends.tos.items c.args.numbered.now.count c.deref.ensures.value c.deref-2.ensures.value c.requires.size c.requires.spots c.in_ok-copy_ends.ensures.ends

pub search-requires-clause-tos : goal.search-requires-clause-tos
search-requires-clause-tos g c =
    tos_within c.args.section.now c.args.numbered.now.spots.items c.deref.result.now c.copy_ends.new.ends.froms.items c.copy_ends.new.ends.tos.items c.deref-3.result.now c.args.numbered.now.count c.deref.ensures.value c.deref-3.ensures.value c.requires.size c.requires.spots c.in_ok-copy_ends.ensures.ends

pub returns-clause-explored : goal.returns-clause-explored
returns-clause-explored g c =
    explored_so c.args.section.now c.args.numbered.now.spots.items c.deref.result.now c.copy_ends.new.ends.froms.items c.deref-2.result.now c.copy_ends.new.ends.tos.items c.deref-3.result.now (search_of c.search.new.found) c.args.numbered.now.count
    c.deref.ensures.value c.deref-2.ensures.value c.deref-3.ensures.value c.in_ok-copy_ends.ensures.ends c.in_ok-search.ensures.search c.in_ok-search.ensures.closed
