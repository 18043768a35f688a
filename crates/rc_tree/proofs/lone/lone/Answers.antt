use Rattle.std.proofs.Common.{◌∙◌, length, slice_index, ap, arith}
use Rattle.std.proofs.lemmas.List.{length-replicate}
use Rattle.rc_tree.proofs.Completed.{zero_at}
use Rattle.rc_tree.proofs.LoneTree.{lone_tree, at_root}
use Rattle.rc_tree.proofs.lone.lone.Goals as goal

-- src/lone.rt
pub returns-clause-tree : goal.returns-clause-tree
returns-clause-tree g c =
    lone_tree g.C.CornerSet.COUNT c.args.section.now (g.P.PinSource.pins c.args.pins.now c.args.section.now)
    (record { parents = c.deref.result.now; vias = c.deref-2.result.now; spots = c.deref-3.result.now; sinks = c.deref-4.result.now }) c.plant.new.tree
    c.requires.fit c.requires.no_resistor (ap length (c.in_ok-plant.ensures.parents ∙ c.deref.ensures.value ∙ c.in_ok-refill.ensures)) (ap length (c.deref.ensures.value ∙ c.in_ok-refill.ensures))
    (λ i. ap (λ l. slice_index l i) (c.deref-3.ensures.value ∙ c.in_ok-refill-3.ensures) ∙ zero_at _ i)
    (ap length (c.in_ok-plant.ensures.sinks ∙ c.deref-4.ensures.value ∙ c.in_ok-put_roots.ensures) ∙ length-replicate _ _ ∙ c.sink_count.ensures) c.in_ok-plant.ensures.sinks
    (λ k below. at_root _ _ (c.deref-4.ensures.value ∙ c.in_ok-put_roots.ensures) k)
    c.in_ok-plant.ensures.filled c.plant.ensures.whole

pub returns-clause-nodes : goal.returns-clause-nodes
returns-clause-nodes g c =
    let one = ap length (c.in_ok-plant.ensures.parents ∙ c.deref.ensures.value ∙ c.in_ok-refill.ensures) in
    omega (arith, one)
