use Rattle.std.proofs.lemmas.Result.{err_from_is_err_and}
use Rattle.edge_io.specs.Writing.{writes_cut, writes_then}
use Rattle.edge_io.proofs.writing.write_4.Goals as goal

pub returns-in_err-write_all : goal.returns-in_err-write_all
returns-in_err-write_all g c =
    let p = err_from_is_err_and c.from_residual.result c.from_residual.ensures.1 in
    rw (p.1) record { writes = writes_cut _ _ c.in_err-write_all.ensures.writes }

pub returns-in_err-write_3 : goal.returns-in_err-write_3
returns-in_err-write_3 g c =
    let p = err_from_is_err_and c.from_residual-in_err-write_3.result c.from_residual-in_err-write_3.ensures.1 in
    rw (p.1) record { writes = writes_then _ _ c.in_ok-write_all.ensures.writes c.in_err-write_3.ensures.writes }
