-- One cell is closed, and another is opened.
use Rattle.std.proofs.Common.{Ok, Err, ◌∙◌}
use Rattle.std.proofs.lemmas.Result.{err_from_is_err_and}
use Rattle.sdf_writer.specs.PathRows.{cell_of_names, opening_text, closing_text}
use Rattle.edge_io.specs.Pushing.{pushes_stop, pushes_then}
use Rattle.sdf_writer.proofs.CellTexts.{same_parts, between_two}
use Rattle.sdf_writer.proofs.cells.write_between.Goals as goal

pub returns-in_err-push : goal.returns-in_err-push
returns-in_err-push g c =
    let p = err_from_is_err_and c.from_residual.result c.from_residual.ensures.1 in
    rw (p.1) (rw (between_two (cell_of_names c.args.names.now c.args.one.now) (cell_of_names c.args.names.now c.args.other.now) (same_parts (cell_of_names c.args.names.now c.args.one.now) (cell_of_names c.args.names.now c.args.other.now) c.is_cell.ensures c.name-kind.ensures c.name-instance.ensures ∙ c.if-is_cell.false)) (record { pushes = pushes_stop c.args.buffer.now (closing_text) (opening_text (cell_of_names c.args.names.now c.args.other.now)) c.in_err-push.ensures.pushes }))

pub returns-in_err-write_opening : goal.returns-in_err-write_opening
returns-in_err-write_opening g c =
    let p = err_from_is_err_and c.from_residual-in_err-write_opening.result c.from_residual-in_err-write_opening.ensures.1 in
    rw (p.1) (rw (between_two (cell_of_names c.args.names.now c.args.one.now) (cell_of_names c.args.names.now c.args.other.now) (same_parts (cell_of_names c.args.names.now c.args.one.now) (cell_of_names c.args.names.now c.args.other.now) c.is_cell.ensures c.name-kind.ensures c.name-instance.ensures ∙ c.if-is_cell.false)) (record { pushes = pushes_then c.args.buffer.now (closing_text) (opening_text (cell_of_names c.args.names.now c.args.other.now)) {result = Err _} c.in_ok-push.ensures.pushes (c.in_err-write_opening.ensures.pushes) }))

pub returns : goal.returns
returns g c =
    rw (between_two (cell_of_names c.args.names.now c.args.one.now) (cell_of_names c.args.names.now c.args.other.now) (same_parts (cell_of_names c.args.names.now c.args.one.now) (cell_of_names c.args.names.now c.args.other.now) c.is_cell.ensures c.name-kind.ensures c.name-instance.ensures ∙ c.if-is_cell.false)) (record { pushes = pushes_then c.args.buffer.now (closing_text) (opening_text (cell_of_names c.args.names.now c.args.other.now)) {result = Ok tt} c.in_ok-push.ensures.pushes (c.in_ok-write_opening.ensures.pushes) })
