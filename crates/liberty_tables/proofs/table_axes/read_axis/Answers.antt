use Rattle.std.proofs.Common.{Bool, subst}
use Rattle.liberty_tables.specs.NumberLists.{pieces_of}
use Rattle.liberty_tables.specs.Kept.{AreKept, texts_of}
use Rattle.liberty_tables.specs.TableModel.{AxisMeans, IsAxisOf}
use Rattle.liberty_tables.proofs.HandingOn.{answered}
use Rattle.liberty_tables.proofs.AxisLemmas.{no_readings, past_axis, kept_axis}
use Rattle.liberty_tables.proofs.table_axes.read_axis.Goals as goal

pub returns-in_err-readings : goal.returns-in_err-readings
returns-in_err-readings c =
    answered c.from_residual.result c.in_err-readings.field-0.0 (AxisMeans c.args.unit.now (pieces_of (texts_of c.args.tree.now c.args.index))) c.from_residual.ensures.1
    (no_readings c.args.unit.now (pieces_of (texts_of c.args.tree.now c.args.index)) c.in_err-readings.field-0.0 c.in_err-readings.ensures.fault)

pub returns : goal.returns
returns c =
    past_axis c.args.unit.now (pieces_of (texts_of c.args.tree.now c.args.index)) c.in_ok-readings.readings.values.items
    (subst (λ (within : Bool). AreKept c.args.unit.now (pieces_of (texts_of c.args.tree.now c.args.index)) within c.in_ok-readings.readings.values.items) c.if-readings.false c.in_ok-readings.ensures.kept)

pub returns-then-readings : goal.returns-then-readings
returns-then-readings c =
    kept_axis c.args.unit.now (pieces_of (texts_of c.args.tree.now c.args.index)) c.in_ok-readings.readings.values.items c.axis_of.result
    (subst (λ (within : Bool). AreKept c.args.unit.now (pieces_of (texts_of c.args.tree.now c.args.index)) within c.in_ok-readings.readings.values.items) c.if-readings.true c.in_ok-readings.ensures.kept)
    (subst (λ values. IsAxisOf values c.axis_of.result) c.as_slice.ensures.value c.axis_of.ensures)
