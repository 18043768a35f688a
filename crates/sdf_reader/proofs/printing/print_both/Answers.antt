-- A front of the text was written where a write failed.
use Rattle.std.proofs.lemmas.Result.{err_from_is_err_and}
use Rattle.edge_io.specs.Writing.{writes_cut, writes_then}
use Rattle.sdf_reader.proofs.printing.print_both.Goals as goal

pub returns-in_err-print_value : goal.returns-in_err-print_value
returns-in_err-print_value g c =
    let p = err_from_is_err_and c.from_residual.result c.from_residual.ensures.1 in
    rw (p.1) record { writes = writes_cut _ _ (writes_cut _ _ c.in_err-print_value.ensures.writes) }

pub returns-in_err-write_all : goal.returns-in_err-write_all
returns-in_err-write_all g c =
    let p = err_from_is_err_and c.from_residual-in_err-write_all.result c.from_residual-in_err-write_all.ensures.1 in
    rw (p.1) record { writes = writes_cut _ _ (writes_then _ _ c.in_ok-print_value.ensures.writes c.in_err-write_all.ensures.writes) }

pub returns-in_err-print_value-2 : goal.returns-in_err-print_value-2
returns-in_err-print_value-2 g c =
    let p = err_from_is_err_and c.from_residual-in_err-print_value-2.result c.from_residual-in_err-print_value-2.ensures.1 in
    rw (p.1) record { writes = writes_then _ _ (writes_then _ _ c.in_ok-print_value.ensures.writes c.in_ok-write_all.ensures.writes) c.in_err-print_value-2.ensures.writes }
