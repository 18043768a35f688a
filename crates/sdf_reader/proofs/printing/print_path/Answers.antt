-- A front of the line was written where a write failed.
use Rattle.std.proofs.lemmas.Result.{err_from_is_err_and}
use Rattle.std.proofs.Common.{ℕ, List, [], ◌∷◌, ◌++◌}
use Rattle.sdf_reader.specs.Lines.{path_names_text, both_text}
use Rattle.edge_io.specs.Writing.{writes_cut, writes_then}
use Rattle.sdf_reader.proofs.printing.print_path.Goals as goal

pub returns-in_err-print_path_names : goal.returns-in_err-print_path_names
returns-in_err-print_path_names g c =
    let names : List ℕ = path_names_text c.args.instance.now c.args.from.now c.args.to.now in
    let values : List ℕ = both_text c.args.rise.now c.args.fall.now in
    let p = err_from_is_err_and c.from_residual.result c.from_residual.ensures.1 in
    rw (p.1) record { writes = writes_cut (names ++ values) (10 ∷ []) (writes_cut names values c.in_err-print_path_names.ensures.writes) }

pub returns-in_err-print_both : goal.returns-in_err-print_both
returns-in_err-print_both g c =
    let p = err_from_is_err_and c.from_residual-in_err-print_both.result c.from_residual-in_err-print_both.ensures.1 in
    rw (p.1) record { writes = writes_cut _ _ (writes_then _ _ c.in_ok-print_path_names.ensures.writes c.in_err-print_both.ensures.writes) }

pub returns-in_err-write_all : goal.returns-in_err-write_all
returns-in_err-write_all g c =
    let p = err_from_is_err_and c.from_residual-in_err-write_all.result c.from_residual-in_err-write_all.ensures.1 in
    rw (p.1) record { writes = writes_then _ _ (writes_then _ _ c.in_ok-print_path_names.ensures.writes c.in_ok-print_both.ensures.writes) c.in_err-write_all.ensures.writes }
