use Rattle.std.proofs.Common.{◌≡◌, ℕ, ◌+◌, ◌<◌, length, slice_index}
use Rattle.rc_tree.specs.Values.{farads_at}
use Rattle.rc_tree.proofs.FillTurns.{Adding}
use Rattle.rc_tree.proofs.filling.fill_farads.Given as goal

abbrev pub invariant-loop-place : goal.invariant-loop-place
invariant-loop-place g l = record {
  state : Adding g.C.CornerSet.COUNT (g.C.CornerSet.number_of l.corner) (λ q. slice_index l.spots (slice_index l.section.caps q)) (λ q. farads_at g.C.CornerSet.COUNT l.section.farads q (g.C.CornerSet.number_of l.corner)) l.fn.farads.values l.farads.values l.place;
  within : (q : ℕ) → q < l.place → slice_index l.section.caps q < length l.section.nodes;
  steps : l.steps ≡ l.fn.steps + l.place;
}
