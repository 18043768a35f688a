use Rattle.std.proofs.Common.{[], ap, unwrap_or}
use Rattle.liberty_groups.specs.Groups.{attributes_of}
use Rattle.liberty_groups.specs.Tables.{group_at}
use Rattle.liberty_tables.specs.TableModel.{PointsMean}
use Rattle.liberty_tables.proofs.HandingOn.{kept_ok}
use Rattle.liberty_tables.proofs.templates.index_axis.Goals as goal

pub returns : goal.returns
returns c =
    let attributes = attributes_of (group_at c.args.tree.now c.args.group.0) in
    kept_ok c.kept.result (PointsMean c.args.called.now c.args.units.now c.args.key.now [] attributes c.args.variable) c.axis_at.result c.kept.ensures
    (c.axis_at.ensures c.args.key.now [] attributes (ap (λ texts. unwrap_or texts []) c.last_of.ensures.values))
