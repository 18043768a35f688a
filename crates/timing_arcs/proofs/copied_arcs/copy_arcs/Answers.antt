use Rattle.std.proofs.Common.{rules, ◌≡◌, ◌≤◌, ◌+◌, ◌++◌, ◌∷◌, [], ◌<◌, length, arith, ap, ◌∙◌}
use Rattle.timing_arcs.specs.CopiedArcs.{led_to}
use Rattle.timing_arcs.proofs.CopiedLemmas.{copy_next}
use Rattle.timing_arcs.proofs.copied_arcs.copy_arcs.Goals as goal

pub loop-place-preserved : goal.loop-place-preserved
loop-place-preserved c =
    let from = c.loop-place.invariant.from in
    let more : c.args.start ≤ c.loop-place.place + 1 = omega (arith, from) in
    let below : c.loop-place.place < length c.args.arcs.now.items = search rules in
    let pushed : c.put.new.arcs.items ≡ c.loop-place.arcs.items ++ c.in_ok-arc.arc ∷ [] = search rules in
    record {
      from = more;
      arcs = pushed ∙ ap (λ arc. c.loop-place.arcs.items ++ arc ∷ []) (c.in_ok-arc.ensures) ∙ copy_next (led_to c.args.to) c.args.arcs.now.items c.loop-place.arcs.items c.args.start c.loop-place.place c.index.result.now from below c.loop-place.invariant.arcs c.index.ensures;
    }
