-- Each path stands behind the one before it.
use Rattle.std.proofs.Common.{Ok, Err, get_or}
use Rattle.std.proofs.lemmas.Result.{err_from_is_err_and}
use Rattle.sdf_writer.specs.PathRows.{path_row}
use Rattle.sdf_writer.proofs.PathsLeft.{none_yet, rows_at, one_more, one_cut, closed, no_path, no_rows}
use Rattle.sdf_writer.proofs.cells.write_others.Goals as goal

pub loop-path-init : goal.loop-path-init
loop-path-init g c = (c.requires.cell, none_yet _ _ c.args.buffer.now (g.O.Sink.written c.args.sink.now) (g.O.Sink.faults c.args.sink.now))

pub returns-in_err-write_next : goal.returns-in_err-write_next
returns-in_err-write_next g c =
    let p = err_from_is_err_and c.from_residual.result c.from_residual.ensures.1 in
    let rows = rows_at g.C.CornerSet.COUNT c.args.names.now c.args.cells.now c.args.times.now c.args.paths.now c.loop-path.path-index no_path c.loop-path-test.true in
    rw (p.1) record { pushes = one_cut (path_row g.C.CornerSet.COUNT c.args.names.now c.args.cells.now c.args.times.now (get_or c.args.paths.now c.loop-path.path-index no_path)) _ rows c.loop-path.invariant.1 c.in_err-write_next.ensures.pushes }

pub loop-path-preserved : goal.loop-path-preserved
loop-path-preserved g c =
    let rows = rows_at g.C.CornerSet.COUNT c.args.names.now c.args.cells.now c.args.times.now c.args.paths.now c.loop-path.path-index no_path c.loop-path-test.true in
    let kept = c.requires.kept c.loop-path.path-index no_path c.loop-path-test.true in
    (kept.cell, one_more (path_row g.C.CornerSet.COUNT c.args.names.now c.args.cells.now c.args.times.now (get_or c.args.paths.now c.loop-path.path-index no_path)) _ rows c.loop-path.invariant.1 c.in_ok-write_next.ensures.pushes)

pub returns-in_err-push : goal.returns-in_err-push
returns-in_err-push g c =
    let p = err_from_is_err_and c.from_residual-in_err-push.result c.from_residual-in_err-push.ensures.1 in
    let none = no_rows g.C.CornerSet.COUNT c.args.names.now c.args.cells.now c.args.times.now c.args.paths.now c.loop-path.path-index c.loop-path-test.false in
    rw (p.1) record { pushes = closed {result = Err _} none c.loop-path.invariant.1 c.in_err-push.ensures.pushes }

pub returns : goal.returns
returns g c =
    let none = no_rows g.C.CornerSet.COUNT c.args.names.now c.args.cells.now c.args.times.now c.args.paths.now c.loop-path.path-index c.loop-path-test.false in
    record { pushes = closed {result = Ok tt} none c.loop-path.invariant.1 c.in_ok-push.ensures.pushes }
