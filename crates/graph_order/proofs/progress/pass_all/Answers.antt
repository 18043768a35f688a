use Rattle.std.proofs.Common.{get_or, slice_index, length, None, arith, ap, subst, sym}
use Rattle.std.proofs.lemmas.List.{get_or_read}
use Rattle.graph_order.specs.Fans.{IsLatest, links_to}
use Rattle.graph_order.specs.Progress.{IsWaiting}
use Rattle.graph_order.proofs.Waiting.{passing_more}
use Rattle.graph_order.proofs.progress.pass_all.Goals as goal

-- src/progress.rt
pub loop-cursor-preserved : goal.loop-cursor-preserved
loop-cursor-preserved c =
    let at = ap links_to c.in-Some.is in
    let held = c.loop-cursor.invariant in
    let link_in = held.within in
    let latest = c.requires.outgoing.previous_at c.in-Some.link (omega (arith, at, link_in)) in
    let size = c.requires.outgoing.previous_len in
    passing_more (length c.args.progress.now.waits.items) c.args.sources.now c.args.targets.now c.args.progress.now.order.items c.args.progress.now.waits.items c.loop-cursor.progress.order.items c.loop-cursor.progress.waits.items c.pass.new.progress.order.items c.pass.new.progress.waits.items
    (slice_index c.args.progress.now.order.items c.args.head) c.in-Some.link c.loop-cursor.cursor c.index-cursor-in-Some.result.now at held
    (subst (λ n. IsWaiting n c.args.sources.now c.args.targets.now c.pass.new.progress.order.items c.pass.new.progress.waits.items) held.waiting.waits_len c.in_ok-pass.ensures.waiting)
    c.in_ok-pass.ensures.goes c.in_ok-pass.ensures.passed
    (subst (IsLatest c.args.sources.now c.in-Some.link (slice_index c.args.progress.now.order.items c.args.head))
    (sym (get_or_read c.args.outgoing.now.previous.items c.in-Some.link c.index-cursor-in-Some.result.now (omega (arith, at, link_in, size)) c.index-cursor-in-Some.ensures None))
    (subst (λ x. IsLatest c.args.sources.now c.in-Some.link x (get_or c.args.outgoing.now.previous.items c.in-Some.link None)) (held.here c.in-Some.link at) latest))

pub loop-cursor-smaller : goal.loop-cursor-smaller
loop-cursor-smaller c =
    let at = ap links_to c.in-Some.is in
    let held = c.loop-cursor.invariant in
    let link_in = held.within in
    let latest = c.requires.outgoing.previous_at c.in-Some.link (omega (arith, at, link_in)) in
    let size = c.requires.outgoing.previous_len in
    let read = ap links_to (get_or_read c.args.outgoing.now.previous.items c.in-Some.link c.index-cursor-in-Some.result.now (omega (arith, at, link_in, size)) c.index-cursor-in-Some.ensures None) in
    let low = latest.within in
    omega (arith, at, read, low)
