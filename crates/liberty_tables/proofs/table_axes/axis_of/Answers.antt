use Rattle.std.proofs.Common.{sym, subst, Err}
use Rattle.liberty_tables.specs.TableModel.{IsAxisOf}
use Rattle.liberty_tables.proofs.AxisLemmas.{below_zero, is_axis, is_no_axis}
use Rattle.liberty_tables.proofs.table_axes.axis_of.Goals as goal

pub returns-then-not-none_below_zero : goal.returns-then-not-none_below_zero
returns-then-not-none_below_zero c = below_zero c.args.points.now (λ all. let holds = c.if-not-none_below_zero.ensures.1 all in cc)

pub returns-in-Ok : goal.returns-in-Ok
returns-in-Ok c = is_axis c.args.points.now c.in-Ok.axis c.in-Ok.ensures.ok c.in-Ok.ensures.faultless c.requires

pub returns-in-Err : goal.returns-in-Err
returns-in-Err c = subst (λ f. IsAxisOf c.args.points.now (Err f)) (sym c.refusal_of.ensures) (is_no_axis c.args.points.now c.in-Err.fault c.in-Err.ensures.refused)
