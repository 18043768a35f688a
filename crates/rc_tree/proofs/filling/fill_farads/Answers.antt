use Rattle.std.proofs.Common.{◌≢◌, inl, inr, slice_index, arith, sym, ap}
use Rattle.std.proofs.lemmas.Bool.{cases_eq}
use Rattle.std.proofs.lemmas.Option.{get_or_from_slice_get}
use Rattle.rc_tree.specs.Values.{farads_at}
use Rattle.rc_tree.proofs.ArenaNets.{farads_read}
use Rattle.rc_tree.proofs.FillTurns.{adding_step}
use Rattle.rc_tree.proofs.filling.fill_farads.Goals as goal

-- src/filling.rt
pub loop-place-preserved : goal.loop-place-preserved
loop-place-preserved g c =
    let number = g.C.CornerSet.number_of c.args.corner in
    let node_is = get_or_from_slice_get c.args.section.now.caps c.loop-place.place c.cap-node.result.0 0 c.cap-node.ensures.node in
    record {
      state = adding_step g.C.CornerSet.COUNT number (λ q. slice_index c.args.spots.now (slice_index c.args.section.now.caps q)) (λ q. farads_at g.C.CornerSet.COUNT c.args.section.now.farads q number)
          c.args.farads.now.values c.loop-place.farads.values c.add_farads.new.farads.values c.loop-place.place (slice_index c.args.spots.now c.cap-node.result.0) c.cap-node.result.1.0 (g.met.C.CornerSet.number_below c.args.corner)
          (c.requires.spots c.cap-node.result.0 (omega (arith, c.cap-node.ensures.within, c.requires.spots_len))) (ap (slice_index c.args.spots.now) (sym node_is)) (sym (farads_read g.C.CornerSet.COUNT c.args.section.now.farads c.loop-place.place number c.cap-node.result.1 c.cap-node.ensures.value)) c.cap-node.ensures.most
          c.add_farads.ensures c.loop-place.invariant.state;
      within = λ q below. elim (cases_eq q c.loop-place.place) [
        | inl e ↦ (let same = ap (slice_index c.args.section.now.caps) e in omega (arith, same, node_is, c.cap-node.ensures.within))
        | inr ne ↦ (let ne' : q ≢ c.loop-place.place = ne in c.loop-place.invariant.within q (omega (arith, ne', below)))
      ];
      steps = omega (arith, c.cap-node.ensures.step, c.loop-place.invariant.steps);
    }
