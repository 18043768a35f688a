use Rattle.std.proofs.lemmas.Result.{err_from_is_err_and}
use Rattle.edge_io.proofs.Pieces.{wrote_rest, wrote_cut}
use Rattle.edge_io.proofs.writing.write_all.Goals as goal

pub returns-in_err-taken : goal.returns-in_err-taken
returns-in_err-taken g c =
    let p = err_from_is_err_and c.from_residual.result c.from_residual.ensures.1 in
    rw (p.1) record { writes = wrote_cut c.loop-rest.invariant c.in_err-taken.ensures.unchanged c.in_err-taken.ensures.later c.in_err-taken.ensures.cause }

pub loop-rest-preserved : goal.loop-rest-preserved
loop-rest-preserved g c =
    wrote_rest c.in_ok-taken.taken c.loop-rest.invariant c.in_ok-taken.ensures.written c.in_ok-taken.ensures.later
