use Rattle.std.proofs.Common.{◌∙◌, ap, length}
use Rattle.std.proofs.lemmas.List.{length-replicate}
use Rattle.rc_tree.specs.Layouts.{layout_of}
use Rattle.rc_tree.proofs.Filled.{planted_so, bare}
use Rattle.rc_tree.proofs.planting.plant.Goals as goal

-- src/planting.rt
pub invariant_of-tree : goal.invariant_of-tree
invariant_of-tree g c = bare g.C.CornerSet.COUNT _ _ _ _ c.empty_lists.ensures.parents c.empty_lists.ensures.ohms c.empty_lists.ensures.farads c.empty_lists.ensures.sinks

pub invariant_of-tree-2 : goal.invariant_of-tree-2
invariant_of-tree-2 g c =
    planted_so g.C.CornerSet.COUNT c.args.section.now (g.P.PinSource.pins c.args.pins.now c.args.section.now) (layout_of c.args.layout.now) _ _ _ _ c.requires c.in-Ok.ensures.parents c.in-Ok.ensures.sinks
    (c.fill_all.ensures.ohms_size ∙ ap length c.in-Ok.ensures.ohms ∙ length-replicate _ _) (c.fill_all.ensures.farads_size ∙ ap length c.in-Ok.ensures.farads ∙ length-replicate _ _) c.fill_all.ensures.filled

pub returns-clause-whole : goal.returns-clause-whole
returns-clause-whole g c =
    planted_so g.C.CornerSet.COUNT c.args.section.now (g.P.PinSource.pins c.args.pins.now c.args.section.now) (layout_of c.args.layout.now) _ _ _ _ c.requires c.in-Ok.ensures.parents c.in-Ok.ensures.sinks
    (c.fill_all.ensures.ohms_size ∙ ap length c.in-Ok.ensures.ohms ∙ length-replicate _ _) (c.fill_all.ensures.farads_size ∙ ap length c.in-Ok.ensures.farads ∙ length-replicate _ _) c.fill_all.ensures.filled
