use Rattle.std.proofs.Common.{◌+◌, None, arith, refl, subst, sym, slice_index, Some, set}
use Rattle.std.proofs.lemmas.List.{get_or_read}
use Rattle.graph_order.proofs.Chains.{Chaining, chaining_more}
use Rattle.graph_order.proofs.fans.fan_of.Goals as goal

-- src/fans.rt
pub loop-link-preserved : goal.loop-link-preserved
loop-link-preserved c =
    let below = c.requires c.loop-link.link 0 (omega (arith, c.loop-link-test.true)) in
    let size = c.loop-link.invariant.last_len in
    subst (λ made. Chaining c.args.keys.now c.args.nodes (set c.loop-link.last.items (slice_index c.args.keys.now c.loop-link.link) (Some c.loop-link.link)) made (c.loop-link.link + 1)) (sym c.in_ok-push.ensures.ok)
    (chaining_more c.args.keys.now c.args.nodes c.loop-link.last.items c.loop-link.previous.items c.loop-link.link _ c.index.result.now
    (omega (arith, c.loop-link-test.true)) refl below (get_or_read c.loop-link.last.items _ c.index.result.now (omega (arith, below, size)) c.index.ensures None) c.loop-link.invariant)
