-- Where there is no room, what waits is written, and then the line.
use Rattle.std.proofs.Common.{refl}
use Rattle.std.proofs.lemmas.Result.{err_from_is_err_and}
use Rattle.edge_io.specs.Writing.{writes_cut, writes_then}
use Rattle.edge_io.specs.Pushing.{pushes_cut, pushes_written}
use Rattle.sdf_reader.proofs.printing.put_row.Goals as goal

pub returns-in_err-flush : goal.returns-in_err-flush
returns-in_err-flush g c =
    let p = err_from_is_err_and c.from_residual.result c.from_residual.ensures.1 in
    rw (p.1) record { pushes = pushes_cut (writes_cut _ _ (rw (c.if-keep_row.ensures.left refl) at c.in_err-flush.ensures.writes)) }

pub returns-in_err-print_row : goal.returns-in_err-print_row
returns-in_err-print_row g c =
    let p = err_from_is_err_and c.from_residual-in_err-print_row.result c.from_residual-in_err-print_row.ensures.1 in
    rw (p.1) record { pushes = pushes_cut (writes_then _ _ (rw (c.if-keep_row.ensures.left refl) at c.in_ok-flush.ensures.writes) c.in_err-print_row.ensures.writes) }

pub returns : goal.returns
returns g c =
    rw (c.in_ok-flush.ensures.emptied)
    record { pushes = pushes_written (writes_then _ _ (rw (c.if-keep_row.ensures.left refl) at c.in_ok-flush.ensures.writes) c.in_ok-print_row.ensures.writes) }
