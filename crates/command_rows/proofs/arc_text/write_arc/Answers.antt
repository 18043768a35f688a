-- The names, and then the times.
use Rattle.std.proofs.lemmas.Result.{err_from_is_err_and}
use Rattle.edge_io.specs.Writing.{writes_cut, writes_then}
use Rattle.command_rows.specs.ArcTexts.{names_text, times_text}
use Rattle.command_rows.proofs.arc_text.write_arc.Goals as goal

pub returns-in_err-write_names : goal.returns-in_err-write_names
returns-in_err-write_names g c =
    let p = err_from_is_err_and c.from_residual.result c.from_residual.ensures.1 in
    rw (p.1) record { writes = writes_cut (names_text c.args.row.now) (times_text c.args.row.now) c.in_err-write_names.ensures.writes }

pub returns-in_err-write_times : goal.returns-in_err-write_times
returns-in_err-write_times g c =
    let p = err_from_is_err_and c.from_residual-in_err-write_times.result c.from_residual-in_err-write_times.ensures.1 in
    rw (p.1) record { writes = writes_then (names_text c.args.row.now) (times_text c.args.row.now) c.in_ok-write_names.ensures.writes c.in_err-write_times.ensures.writes }
