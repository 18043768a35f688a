-- The lines of the rows, and then the line of their summary.
use Rattle.std.proofs.lemmas.Result.{err_from_is_err_and}
use Rattle.edge_io.specs.Writing.{writes_cut, writes_then}
use Rattle.gdc_run.proofs.output.write_listing.Goals as goal

pub returns-in_err-print_rows : goal.returns-in_err-print_rows
returns-in_err-print_rows g c =
    let p = err_from_is_err_and c.from_residual.result c.from_residual.ensures.1 in
    rw (p.1) record { writes = writes_cut _ _ c.in_err-print_rows.ensures.writes }

pub returns-in_err-print_summary : goal.returns-in_err-print_summary
returns-in_err-print_summary g c =
    let p = err_from_is_err_and c.from_residual-in_err-print_summary.result c.from_residual-in_err-print_summary.ensures.1 in
    rw (p.1) record { writes = writes_then _ _ c.in_ok-print_rows.ensures.writes c.in_err-print_summary.ensures.writes }

pub returns : goal.returns
returns g c = record { writes = writes_then _ _ c.in_ok-print_rows.ensures.writes c.in_ok-print_summary.ensures.writes }
