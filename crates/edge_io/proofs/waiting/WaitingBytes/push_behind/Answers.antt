use Rattle.std.proofs.lemmas.Result.{err_from_is_err_and}
use Rattle.edge_io.specs.Writing.{writes_cut, writes_then}
use Rattle.edge_io.specs.Pushing.{pushes_written, pushes_cut}
use Rattle.edge_io.proofs.waiting.WaitingBytes.push_behind.Goals as goal

pub returns-in_err-flush : goal.returns-in_err-flush
returns-in_err-flush g c =
    let p = err_from_is_err_and c.from_residual.result c.from_residual.ensures.1 in
    rw (p.1) record { pushes = pushes_cut (writes_cut _ _ c.in_err-flush.ensures.writes) }

pub returns-in_err-write_all : goal.returns-in_err-write_all
returns-in_err-write_all g c =
    let p = err_from_is_err_and c.from_residual-in_err-write_all.result c.from_residual-in_err-write_all.ensures.1 in
    rw (p.1) record { pushes = pushes_cut (writes_then _ _ c.in_ok-flush.ensures.writes c.in_err-write_all.ensures.writes) }

pub returns-in_ok-write_all : goal.returns-in_ok-write_all
returns-in_ok-write_all g c =
    rw (c.in_ok-flush.ensures.emptied)
    record { pushes = pushes_written (writes_then _ _ c.in_ok-flush.ensures.writes c.in_ok-write_all.ensures.writes) }
