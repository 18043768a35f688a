use Rattle.std.proofs.Common.{◌≡◌, ℕ, length, drop, slice_index, set, None, Some, sym, ap, ◌∙◌, subst, arith}
use Rattle.std.proofs.lemmas.List.{get_or_read}
use Rattle.std.proofs.lemmas.Result.{IfOk-weaker}
use Rattle.graph_order.specs.Fans.{links_to}
use Rattle.graph_order.specs.Trails.{IsBackCycle}
use Rattle.graph_order.proofs.Trails.{IsTrail, trail_end, trail_more}
use Rattle.graph_order.proofs.cycles.back_cycle.Goals as goal

-- src/cycles.rt
pub links_from-requires : goal.links_from-requires
links_from-requires c =
    let held = c.loop-place.invariant in
    let target_in = c.requires.targets c.loop-place.link 0 (let l = held.link_in in let s = c.requires.same in omega (arith, l, s)) in
    let read = get_or_read c.loop-place.places.items _ c.index.result.now (let l = held.places_len in omega (arith, l, target_in)) c.index.ensures None in
    let back = held.back (slice_index c.args.targets.now c.loop-place.link) c.in-Some.place target_in (ap links_to (sym read ∙ c.in-Some.is)) in
    let low = back.0 in let size = ap length c.deref.ensures.value in omega (arith, low, size)

pub returns-in-Some : goal.returns-in-Some
returns-in-Some c =
    let held = c.loop-place.invariant in
    let target_in = c.requires.targets c.loop-place.link 0 (let l = held.link_in in let s = c.requires.same in omega (arith, l, s)) in
    let read = get_or_read c.loop-place.places.items _ c.index.result.now (let l = held.places_len in omega (arith, l, target_in)) c.index.ensures None in
    IfOk-weaker c.links_from.result (λ made. made.items ≡ drop c.in-Some.place c.deref.result.now) (λ made. (node : ℕ) × IsBackCycle c.args.sources.now c.args.targets.now node made.items)
    (λ made made_is. (
      slice_index c.args.targets.now c.loop-place.link,
      subst (IsBackCycle c.args.sources.now c.args.targets.now (slice_index c.args.targets.now c.loop-place.link)) (sym (made_is ∙ ap (drop c.in-Some.place) c.deref.ensures.value))
          (trail_end (length c.args.waits.now) c.args.sources.now c.args.targets.now c.args.waits.now c.loop-place.places.items c.loop-place.trail.items c.loop-place.link c.in-Some.place target_in (ap links_to (sym read ∙ c.in-Some.is)) held),
    )) c.links_from.ensures

pub loop-place-preserved : goal.loop-place-preserved
loop-place-preserved c =
    let held = c.loop-place.invariant in
    let target_in = c.requires.targets c.loop-place.link 0 (let l = held.link_in in let s = c.requires.same in omega (arith, l, s)) in
    let source_in = c.requires.sources c.loop-place.link 0 held.link_in in
    let size : length c.loop-place.trail.items ≡ c.len.result = omega (arith, c.len.ensures, c.loop-place.trail.ok.0) in
    subst (λ k. IsTrail (length c.args.waits.now) c.args.sources.now c.args.targets.now c.args.waits.now (set c.loop-place.places.items (slice_index c.args.targets.now c.loop-place.link) (Some k)) c.push.new.items.items c.in-Some-waits.next) size
    (trail_more (length c.args.waits.now) c.args.sources.now c.args.targets.now c.args.waits.now c.loop-place.places.items c.loop-place.trail.items c.push.new.items.items c.loop-place.link c.in-Some-waits.next target_in source_in c.requires.same c.requires.stuck
    (ap links_to c.in-Some-waits.is) c.in_ok-push.ensures.ok held)
