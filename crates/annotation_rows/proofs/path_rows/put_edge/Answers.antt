use Rattle.std.proofs.Common.{sym, ◌∙◌}
use Rattle.annotation_rows.proofs.EdgeRows.{kept_printed}
use Rattle.annotation_rows.proofs.path_rows.put_edge.Goals as goal

-- src/path_rows.rt
pub put_times-requires-clause-printed : goal.put_times-requires-clause-printed
put_times-requires-clause-printed g c =
    kept_printed c.args.design.now c.args.instance c.args.edge g.C.CornerSet.COUNT c.args.arc c.args.values.now.values
    (sym c.corner_count.ensures.corners ∙ c.corner_count.ensures.count) c.requires.arc c.requires.bests
