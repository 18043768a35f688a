-- What stands between the two, and the line of the path.
use Rattle.std.proofs.Common.{Ok, Err}
use Rattle.std.proofs.lemmas.Result.{err_from_is_err_and}
use Rattle.sdf_writer.specs.PathRows.{cell_at, between_text}
use Rattle.edge_io.specs.Pushing.{pushes_stop, pushes_then}
use Rattle.sdf_writer.proofs.PathsLeft.{kept_line, next_parts}
use Rattle.sdf_writer.proofs.cells.write_next.Goals as goal

pub returns-in_err-write_between : goal.returns-in_err-write_between
returns-in_err-write_between g c =
    let p = err_from_is_err_and c.from_residual.result c.from_residual.ensures.1 in
    let between = between_text (cell_at c.args.names.now c.args.cells.now c.args.before) (cell_at c.args.names.now c.args.cells.now c.args.path.now.cell) in
    let line = kept_line g.C.CornerSet.COUNT c.args.names.now c.args.times.now c.args.path.now in
    let parts = next_parts g.C.CornerSet.COUNT c.args.names.now c.args.cells.now c.args.times.now c.args.before c.args.path.now in
    rw (p.1, parts) (record { pushes = pushes_stop c.args.buffer.now between line c.in_err-write_between.ensures.pushes })

pub returns-in_err-write_path : goal.returns-in_err-write_path
returns-in_err-write_path g c =
    let p = err_from_is_err_and c.from_residual-in_err-write_path.result c.from_residual-in_err-write_path.ensures.1 in
    let between = between_text (cell_at c.args.names.now c.args.cells.now c.args.before) (cell_at c.args.names.now c.args.cells.now c.args.path.now.cell) in
    let line = kept_line g.C.CornerSet.COUNT c.args.names.now c.args.times.now c.args.path.now in
    let parts = next_parts g.C.CornerSet.COUNT c.args.names.now c.args.cells.now c.args.times.now c.args.before c.args.path.now in
    rw (p.1, parts) (record { pushes = pushes_then c.args.buffer.now between line {result = Err _} c.in_ok-write_between.ensures.pushes c.in_err-write_path.ensures.pushes })

pub returns : goal.returns
returns g c =
    let between = between_text (cell_at c.args.names.now c.args.cells.now c.args.before) (cell_at c.args.names.now c.args.cells.now c.args.path.now.cell) in
    let line = kept_line g.C.CornerSet.COUNT c.args.names.now c.args.times.now c.args.path.now in
    let parts = next_parts g.C.CornerSet.COUNT c.args.names.now c.args.cells.now c.args.times.now c.args.before c.args.path.now in
    rw (parts) (record { pushes = pushes_then c.args.buffer.now between line {result = Ok tt} c.in_ok-write_between.ensures.pushes c.in_ok-write_path.ensures.pushes })
