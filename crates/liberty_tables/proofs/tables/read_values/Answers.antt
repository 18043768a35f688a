use Rattle.std.proofs.Common.{Bool, true, false, [], Err, ap, subst, unwrap_or}
use Rattle.liberty_groups.specs.Tables.{group_at}
use Rattle.liberty_tables.specs.NumberLists.{pieces_of}
use Rattle.liberty_tables.specs.Kept.{AreKept, texts_of}
use Rattle.liberty_tables.specs.TableModel.{ValuesMean, value_pieces}
use Rattle.liberty_tables.proofs.HandingOn.{handed_on}
use Rattle.liberty_tables.proofs.AxisLemmas.{no_listed, past_values, kept_values}
use Rattle.liberty_tables.proofs.tables.read_values.Goals as goal

pub returns-in_err-readings-clause-fault : goal.returns-in_err-readings-clause-fault
returns-in_err-readings-clause-fault c =
    let same = ap (λ values. pieces_of (unwrap_or values [])) c.last_of.ensures.values in
    handed_on c.from_residual.result c.in_err-readings.field-0.0 (λ fault. ValuesMean c.args.unit.now (value_pieces (group_at c.args.tree.now c.args.table.0)) (Err fault)) c.from_residual.ensures.1
    (subst (λ pieces. ValuesMean c.args.unit.now pieces (Err c.in_err-readings.field-0.0)) same
    (no_listed c.args.unit.now (pieces_of (texts_of c.args.tree.now c.last_of.result)) c.in_err-readings.field-0.0 c.in_err-readings.ensures.fault))

pub returns-else-readings-clause-fault : goal.returns-else-readings-clause-fault
returns-else-readings-clause-fault c =
    let same = ap (λ values. pieces_of (unwrap_or values [])) c.last_of.ensures.values in
    past_values c.args.unit.now (value_pieces (group_at c.args.tree.now c.args.table.0)) c.in_ok-readings.readings.values.items
    (subst (λ pieces. AreKept c.args.unit.now pieces false c.in_ok-readings.readings.values.items) same
    (subst (λ (within : Bool). AreKept c.args.unit.now (pieces_of (texts_of c.args.tree.now c.last_of.result)) within c.in_ok-readings.readings.values.items) c.if-readings.false c.in_ok-readings.ensures.kept))

pub returns-then-readings-clause-means : goal.returns-then-readings-clause-means
returns-then-readings-clause-means c =
    let same = ap (λ values. pieces_of (unwrap_or values [])) c.last_of.ensures.values in
    kept_values c.args.unit.now (value_pieces (group_at c.args.tree.now c.args.table.0)) c.in_ok-readings.readings.values.items
    (subst (λ pieces. AreKept c.args.unit.now pieces true c.in_ok-readings.readings.values.items) same
    (subst (λ (within : Bool). AreKept c.args.unit.now (pieces_of (texts_of c.args.tree.now c.last_of.result)) within c.in_ok-readings.readings.values.items) c.if-readings.true c.in_ok-readings.ensures.kept))
