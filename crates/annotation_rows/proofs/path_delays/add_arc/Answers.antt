use Rattle.std.proofs.Common.{◌≡◌, ◌<◌, sym, ap, ap₂, ◌∙◌, length-set, length, arith, None}
use Rattle.std.specs.Option.{unwrap_or}
use Rattle.corner_set.specs.Places.{value_at}
use Rattle.slew_order.specs.LivePaths.{larger}
use Rattle.slew_order.proofs.Settling.{steps_more}
use Rattle.annotation_rows.specs.PathTables.{kept_at}
use Rattle.annotation_rows.proofs.Bests.{bests_next}
use Rattle.annotation_rows.proofs.path_delays.add_arc.Goals as goal

-- src/path_delays.rt
pub loop-number-preserved : goal.loop-number-preserved
loop-number-preserved g c =
    let count = c.args.design.now.source.count in
    let number = c.loop-number.number in
    let values = c.loop-number.values.values in
    let after = c.set.new.self.values in
    let same : g.C.CornerSet.COUNT ≡ count = sym c.corner_count-number-end.ensures.corners ∙ c.corner_count-number-end.ensures.count in
    let at : g.C.CornerSet.number_of c.corner-corner.result ≡ number = c.corner-corner.ensures in
    let below : number < count = omega (arith, c.loop-number-test.true, c.loop-number.auto.number-end, c.corner_count-number-end.ensures.count) in
    let got : kept_at count values c.args.path number ≡ c.get.result =
    ap (λ found. unwrap_or found None) (ap₂ (λ n k. value_at n values c.args.path k) (sym same) (sym at) ∙ c.get.ensures) in
    let here : kept_at count after c.args.path number ≡ c.larger-best.result =
    ap (λ found. unwrap_or found None) (ap₂ (λ n k. value_at n after c.args.path k) (sym same) (sym at) ∙ c.set.ensures.held) in
    record {
      bests = bests_next c.args.design.now c.args.at.instance c.args.edge c.args.at.arc c.args.path number values after c.larger-best.result
          c.loop-number.invariant.bests c.requires.path c.requires.within below
          (ap length c.set.ensures.written ∙ length-set values _ c.larger-best.result) here
          (c.larger-best.ensures ∙ ap₂ larger (sym got) c.delay-delay.ensures.delay)
          (λ path corner less apart.
          let index = g.met.C.CornerSet.number_of_corner corner (omega (arith, less, same)) in
          ap (λ found. unwrap_or found None)
          (ap₂ (λ n k. value_at n after path k) (sym same) (sym index.2)
          ∙ c.set.ensures.others path index.0 (λ both. apart (both.0, sym index.2 ∙ both.1 ∙ at))
          ∙ ap₂ (λ n k. value_at n values path k) same index.2));
      steps = steps_more 32 number _ _ _ _ c.loop-number.invariant.steps c.delay-delay.ensures.steps;
    }
