use Rattle.std.proofs.Common.{sym, subst}
use Rattle.liberty_tables.specs.Kept.{texts_of}
use Rattle.liberty_tables.specs.TableModel.{PointsMean}
use Rattle.liberty_tables.proofs.AxisLemmas.{zero_axis, variable_axis}
use Rattle.liberty_tables.proofs.table_axes.axis_at.Goals as goal

pub returns-in_default : goal.returns-in_default
returns-in_default c = λ key table template texts.
    subst (λ v. PointsMean c.args.called.now c.args.units.now key table template v c.axis_of.result) (sym c.in_default.is)
    (zero_axis c.args.called.now c.args.units.now key table template c.axis_of.result c.axis_of.ensures)

pub returns : goal.returns
returns c = λ key table template texts.
    variable_axis c.args.called.now c.args.units.now key table template c.args.variable c.in-Some.which c.of.result.now (texts_of c.args.tree.now c.args.index) c.read_axis.result
    c.in-Some.is c.of.ensures texts c.read_axis.ensures
