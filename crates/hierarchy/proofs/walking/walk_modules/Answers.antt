-- A turn of the walk is one of the lemmas on turns, at what the code has then.
use Rattle.std.proofs.Common.{ℕ, ◌<◌, [], ◌∷◌, ◌++◌, length, sym, ap, ◌∙◌, subst, arith, Option}
use Rattle.std.proofs.lemmas.List.{length_push, nil_from_length}
use Rattle.hierarchy.specs.WalkProgress.{IsGoing}
use Rattle.hierarchy.proofs.WalkTurns.{begun, leaves, ends, turned_cell, turned_module, turn_within, frame_within}
use Rattle.hierarchy.proofs.walking.walk_modules.Goals as goal
use Rattle.hierarchy.proofs.walking.walk_modules.Goals.{in-Some-lower+in_ok-enter-in-Some-lower, in-None}

pub loop-frame-init : goal.loop-frame-init
loop-frame-init c =
    let modules = c.args.modules.now in
    let top = c.args.top in
    let visited = c.in_ok-enter.ensures.visit ∙ ap (λ vs. vs ++ record { parent = 0; instance = 0; «module» = top } ∷ []) c.new-visits.ensures.items in
    let framed = c.in_ok-enter.ensures.frame
    ∙ ap (λ fs. fs ++ record { visit = length c.new-visits.result.items; «module» = top; next = 0 } ∷ []) c.new-frames.ensures.items
    ∙ ap (λ vs. record { visit = length vs; «module» = top; next = 0 } ∷ []) c.new-visits.ensures.items in
    begun modules top c.enter.new.visits.items c.in_ok-met.met.items c.enter.new.frames.items c.requires.within visited c.in_ok-met.ensures framed

pub lower-requires : goal.lower-requires
lower-requires c =
    let modules = c.args.modules.now in
    let frame = c.in-Some.frame in
    let loop = c.loop-frame in
    let lt : frame.next < c.instance_count.result = omega arith in
    record {
      modules = modules;
      are = c.requires.cells;
      within = frame_within modules c.args.top loop.visits.items loop.met.items loop.frames.items c.pop.new.self.items frame loop.invariant c.in-Some.ensures.items;
      place = subst (λ n. frame.next < n) c.instance_count.ensures lt;
    }

pub loop-frame-preserved-in_ok-push-2 : goal.loop-frame-preserved-in_ok-push-2
loop-frame-preserved-in_ok-push-2 c =
    let modules = c.args.modules.now in
    let top = c.args.top in
    let frame = c.in-Some.frame in
    let loop = c.loop-frame in
    let lt : frame.next < c.instance_count.result = omega arith in
    let within = subst (λ n. frame.next < n) c.instance_count.ensures lt in
    let longer = c.in_ok-push-2.ensures.ok in
    let stands : frame.«module» < length modules = frame_within modules top loop.visits.items loop.met.items loop.frames.items c.pop.new.self.items frame
    loop.invariant c.in-Some.ensures.items in
    elim c.match-lower.branch [
      | in-Some-lower+in_ok-enter-in-Some-lower w ↦
          turned_module modules top loop.visits.items c.match-lower.visits.items loop.met.items c.push-then-next-instance_count.new.items.items
          loop.frames.items c.pop.new.self.items c.push.new.items.items c.match-lower.frames.items frame c.in_ok-instance.instance
          w.in-Some-lower.lower w.in_ok-enter-in-Some-lower.field-0
          c.requires.walkable.shallow loop.invariant c.in-Some.ensures.items within
          (w.in-Some-lower.ensures.named modules c.requires.cells stands within) (w.in-Some-lower.ensures.within modules c.requires.cells stands within)
          c.in_ok-instance.ensures w.in_ok-enter-in-Some-lower.ensures.number
          (longer ∙ ap (λ (l : Option ℕ). loop.met.items ++ record { visit = frame.visit; instance = c.in_ok-instance.instance; lower = l } ∷ []) w.lower-is)
          c.in_ok-push.ensures.ok
          (ap (λ v. v.items) w.visits-is ∙ w.in_ok-enter-in-Some-lower.ensures.visit)
          (ap (λ v. v.items) w.frames-is ∙ w.in_ok-enter-in-Some-lower.ensures.frame)
      | in-None w ↦
          subst (λ vs. IsGoing modules top vs.items c.push-then-next-instance_count.new.items.items c.match-lower.frames.items) (sym w.visits-is)
          (turned_cell modules top loop.visits.items loop.met.items c.push-then-next-instance_count.new.items.items
          loop.frames.items c.pop.new.self.items c.match-lower.frames.items frame c.in_ok-instance.instance
          loop.invariant c.in-Some.ensures.items within
          (w.in-None.ensures.none modules c.requires.cells stands within)
          c.in_ok-instance.ensures
          (longer ∙ ap (λ (l : Option ℕ). loop.met.items ++ record { visit = frame.visit; instance = c.in_ok-instance.instance; lower = l } ∷ []) w.lower-is)
          (ap (λ v. v.items) w.frames-is ∙ c.in_ok-push.ensures.ok))
    ]

pub loop-frame-preserved : goal.loop-frame-preserved
loop-frame-preserved c =
    leaves c.args.modules.now c.args.top c.loop-frame.visits.items c.loop-frame.met.items c.pop.new.self.items c.in-Some.frame
    (subst (IsGoing c.args.modules.now c.args.top c.loop-frame.visits.items c.loop-frame.met.items) c.in-Some.ensures.items c.loop-frame.invariant)
    (omega (arith, c.instance_count.ensures))

pub loop-frame-smaller-in_ok-push-2 : goal.loop-frame-smaller-in_ok-push-2
loop-frame-smaller-in_ok-push-2 c =
    let modules = c.args.modules.now in
    let frame = c.in-Some.frame in
    let loop = c.loop-frame in
    let lt : frame.next < c.instance_count.result = omega arith in
    let within = subst (λ n. frame.next < n) c.instance_count.ensures lt in
    let left = turn_within modules c.args.top loop.visits.items loop.met.items loop.frames.items c.pop.new.self.items frame loop.invariant c.in-Some.ensures.items within in
    let met_more = ap length c.in_ok-push-2.ensures.ok ∙ length_push loop.met.items _ in
    let popped = ap length c.in-Some.ensures.items ∙ length_push c.pop.new.self.items frame in
    let pushed = ap length c.in_ok-push.ensures.ok ∙ length_push c.pop.new.self.items _ in
    elim c.match-lower.branch [
      | in-Some-lower+in_ok-enter-in-Some-lower w ↦
          let framed = ap (λ v. length v.items) w.frames-is ∙ ap length w.in_ok-enter-in-Some-lower.ensures.frame ∙ length_push c.push.new.items.items _ in
          omega arith
      | in-None w ↦
          let framed = ap (λ v. length v.items) w.frames-is in
          omega arith
    ]

pub returns : goal.returns
returns c = record {
  ok = ends c.args.modules.now c.args.top c.loop-frame.visits.items c.loop-frame.met.items
      (subst (IsGoing c.args.modules.now c.args.top c.loop-frame.visits.items c.loop-frame.met.items) (nil_from_length c.loop-frame.frames.items (omega (arith, c.loop-frame.frames.ok.0, c.in_default.ensures.cases.0))) c.loop-frame.invariant);
}
