use Rattle.std.proofs.Common.{◌-◌, length, slice_index, refl, arith}
use Rattle.std.proofs.lemmas.List.{get_or_read}
use Rattle.rc_tree.specs.FoundSearch.{search_of}
use Rattle.rc_tree.proofs.Finding.{walking_step}
use Rattle.rc_tree.proofs.searching.visit.Goals as goal

-- src/searching.rt
pub loop-left-preserved : goal.loop-left-preserved
loop-left-preserved c =
    walking_step (length c.args.found.now.numbers.items) c.args.near.now c.args.far.now c.args.threads.now.heads.items c.args.threads.now.nexts.items (search_of c.args.found.now) (search_of c.loop-left.found) (search_of c.reach.new.found)
    c.args.place (slice_index c.args.found.now.order.items c.args.place) c.loop-left.left c.index-left-in-loop-left.result.now c.requires.threads c.requires.within refl (omega (arith, c.loop-left-test.true)) c.requires.fars c.requires.same
    c.in_ok-reach.ensures
    (get_or_read c.args.threads.now.nexts.items (c.loop-left.left - 1) c.index-left-in-loop-left.result.now (omega (arith, c.requires.threads.nexts_len, c.loop-left.invariant.within, c.loop-left-test.true)) c.index-left-in-loop-left.ensures 0)
    c.loop-left.invariant
