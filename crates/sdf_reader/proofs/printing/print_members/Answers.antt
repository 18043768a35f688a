-- A front of the text was written where a write failed.
use Rattle.std.proofs.lemmas.Result.{err_from_is_err_and}
use Rattle.edge_io.specs.Writing.{writes_cut, writes_then}
use Rattle.sdf_reader.proofs.printing.print_members.Goals as goal

pub returns-in_err-print_member : goal.returns-in_err-print_member
returns-in_err-print_member g c =
    let p = err_from_is_err_and c.from_residual.result c.from_residual.ensures.1 in
    rw (p.1) record { writes = writes_cut _ _ (writes_cut _ _ c.in_err-print_member.ensures.writes) }

pub returns-in_err-print_next : goal.returns-in_err-print_next
returns-in_err-print_next g c =
    let p = err_from_is_err_and c.from_residual-in_err-print_next.result c.from_residual-in_err-print_next.ensures.1 in
    rw (p.1) record { writes = writes_cut _ _ (writes_then _ _ c.in_ok-print_member.ensures.writes c.in_err-print_next.ensures.writes) }

pub returns-in_err-print_next-2 : goal.returns-in_err-print_next-2
returns-in_err-print_next-2 g c =
    let p = err_from_is_err_and c.from_residual-in_err-print_next-2.result c.from_residual-in_err-print_next-2.ensures.1 in
    rw (p.1) record { writes = writes_then _ _ (writes_then _ _ c.in_ok-print_member.ensures.writes c.in_ok-print_next.ensures.writes) c.in_err-print_next-2.ensures.writes }
