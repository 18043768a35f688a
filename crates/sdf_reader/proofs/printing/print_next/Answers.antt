-- A front of the text was written where a write failed.
use Rattle.std.proofs.lemmas.Result.{err_from_is_err_and}
use Rattle.edge_io.specs.Writing.{writes_then}
use Rattle.sdf_reader.proofs.printing.print_next.Goals as goal

pub returns-in_err-print_member : goal.returns-in_err-print_member
returns-in_err-print_member g c =
    let p = err_from_is_err_and c.from_residual-in_err-print_member.result c.from_residual-in_err-print_member.ensures.1 in
    rw (p.1) record { writes = writes_then _ _ c.in_ok-write_all.ensures.writes c.in_err-print_member.ensures.writes }
