-- Where there is no room, what waits is written, and then the line.
use Rattle.std.proofs.Common.{refl}
use Rattle.std.proofs.lemmas.Result.{err_from_is_err_and}
use Rattle.edge_io.specs.Writing.{writes_cut, writes_then}
use Rattle.edge_io.specs.Pushing.{pushes_cut, pushes_written}
use Rattle.command_rows.proofs.flat_text.put_line.Goals as goal

pub returns-in_err-flush : goal.returns-in_err-flush
returns-in_err-flush g c =
    let p = err_from_is_err_and c.from_residual.result c.from_residual.ensures.1 in
    rw (p.1) record { pushes = pushes_cut (writes_cut _ _ (rw (c.if-keep_line.ensures.left refl) at c.in_err-flush.ensures.writes)) }

pub returns-in_err-write_line : goal.returns-in_err-write_line
returns-in_err-write_line g c =
    let p = err_from_is_err_and c.from_residual-in_err-write_line.result c.from_residual-in_err-write_line.ensures.1 in
    rw (p.1) record { pushes = pushes_cut (writes_then _ _ (rw (c.if-keep_line.ensures.left refl) at c.in_ok-flush.ensures.writes) c.in_err-write_line.ensures.writes) }

pub returns : goal.returns
returns g c =
    rw (c.in_ok-flush.ensures.emptied)
    record { pushes = pushes_written (writes_then _ _ (rw (c.if-keep_line.ensures.left refl) at c.in_ok-flush.ensures.writes) c.in_ok-write_line.ensures.writes) }
