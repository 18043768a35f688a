use Rattle.std.proofs.Common.{[], ap, sym, unwrap_or}
use Rattle.liberty_groups.specs.Groups.{attributes_of}
use Rattle.liberty_groups.specs.Tables.{group_at}
use Rattle.liberty_tables.specs.Attributes.{values_of}
use Rattle.liberty_tables.proofs.AxisLemmas.{template_axis}
use Rattle.liberty_tables.proofs.table_axes.axis_of_variable.Goals as goal

pub returns-in-Some : goal.returns-in-Some
returns-in-Some c = λ template points.
    c.axis_at.ensures c.args.key.now (attributes_of (group_at c.args.tree.now c.args.table.0)) template
    (ap (λ texts. unwrap_or texts (unwrap_or (values_of c.args.key.now template) [])) c.in-Some.ensures.values)

pub returns-in-None : goal.returns-in-None
returns-in-None c = λ template points.
    template_axis c.args.called.now c.args.units.now c.args.key.now (attributes_of (group_at c.args.tree.now c.args.table.0)) template c.args.variable c.args.of_template.now c.copied.result
    (sym c.in-None.ensures.values) points c.copied.ensures
