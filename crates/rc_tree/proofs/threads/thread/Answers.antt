use Rattle.std.proofs.Common.{refl, ap, slice_index, slice_set, arith}
use Rattle.std.proofs.lemmas.List.{get_or_read}
use Rattle.rc_tree.proofs.Threading.{threading_step}
use Rattle.rc_tree.proofs.threads.thread.Goals as goal

-- src/threads.rt
pub loop-place-preserved : goal.loop-place-preserved
loop-place-preserved c =
    let below = c.requires c.loop-place.place 0 (omega (arith, c.loop-place-test.true)) in
    let size = c.loop-place.invariant.heads_len in
    threading_step c.args.near.now c.args.nodes c.loop-place.threads.heads.items c.loop-place.threads.nexts.items _ c.push.new.items.items c.loop-place.place _ c.index.result.now
    refl below (get_or_read c.loop-place.threads.heads.items _ c.index.result.now (omega (arith, below, size)) c.index.ensures 0) c.in_ok-push.ensures.ok (ap (slice_set c.loop-place.threads.heads.items (slice_index c.args.near.now c.loop-place.place)) c.in_ok-threads.ensures) c.loop-place.invariant
