use Rattle.std.proofs.Common.{refl, arith}
use Rattle.rc_tree.proofs.Numbers.{copying_step}
use Rattle.rc_tree.proofs.numbering.copy_ends.Goals as goal

-- src/numbering.rt
pub loop-place-preserved : goal.loop-place-preserved
loop-place-preserved g c = record {
  ends = copying_step c.args.section.now c.args.spots.now c.loop-place.ends.froms.items c.loop-place.ends.tos.items c.push.new.items.items c.push-in-loop-place.new.items.items c.loop-place.place
      c.res-resistor.result.a c.res-resistor.result.b _ _ c.res-resistor.ensures.nodes c.res-resistor.ensures.a_within c.res-resistor.ensures.b_within refl refl c.in_ok-push.ensures.ok c.in_ok-push-2.ensures.ok c.loop-place.invariant.ends;
  steps = omega (arith, c.res-resistor.ensures.step, c.loop-place.invariant.steps);
}
