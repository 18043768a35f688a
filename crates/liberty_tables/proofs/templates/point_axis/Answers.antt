use Rattle.std.proofs.Common.{[], None, codes, refl}
use Rattle.liberty_tables.specs.TableModel.{PointsMean}
use Rattle.liberty_tables.proofs.HandingOn.{kept_ok}
use Rattle.liberty_tables.proofs.templates.point_axis.Goals as goal

pub returns-clause-first : goal.returns-clause-first
returns-clause-first c =
    kept_ok c.kept.result (PointsMean c.args.called.now c.args.units.now (codes "index_1") [] [] None) c.axis_at.result c.kept.ensures (c.axis_at.ensures (codes "index_1") [] [] refl)

pub returns-clause-second : goal.returns-clause-second
returns-clause-second c =
    kept_ok c.kept.result (PointsMean c.args.called.now c.args.units.now (codes "index_2") [] [] None) c.axis_at.result c.kept.ensures (c.axis_at.ensures (codes "index_2") [] [] refl)
