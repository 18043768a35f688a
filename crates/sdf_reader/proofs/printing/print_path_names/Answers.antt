-- A front of the names was written where a write failed.
use Rattle.std.proofs.lemmas.Result.{err_from_is_err_and}
use Rattle.std.proofs.Common.{ℕ, List, ◌++◌}
use Rattle.std.specs.Prelude.{codes}
use Rattle.sdf_reader.specs.Lines.{instance_text, names_text}
use Rattle.edge_io.specs.Writing.{writes_cut, writes_then}
use Rattle.sdf_reader.proofs.printing.print_path_names.Goals as goal

pub returns-in_err-write_all : goal.returns-in_err-write_all
returns-in_err-write_all g c =
    let place : List ℕ = instance_text c.args.instance.now ++ codes " " in
    let names : List ℕ = names_text c.args.from.now c.args.to.now in
    let p = err_from_is_err_and c.from_residual.result c.from_residual.ensures.1 in
    rw (p.1) record { writes = writes_cut (codes "path " ++ place) names (writes_cut (codes "path ") place c.in_err-write_all.ensures.writes) }

pub returns-in_err-print_instance : goal.returns-in_err-print_instance
returns-in_err-print_instance g c =
    let p = err_from_is_err_and c.from_residual-in_err-print_instance.result c.from_residual-in_err-print_instance.ensures.1 in
    rw (p.1) record { writes = writes_cut _ _ (writes_then _ _ c.in_ok-write_all.ensures.writes c.in_err-print_instance.ensures.writes) }

pub returns-in_err-write_4 : goal.returns-in_err-write_4
returns-in_err-write_4 g c =
    let p = err_from_is_err_and c.from_residual-in_err-write_4.result c.from_residual-in_err-write_4.ensures.1 in
    rw (p.1) record { writes = writes_then _ _ (writes_then _ _ c.in_ok-write_all.ensures.writes c.in_ok-print_instance.ensures.writes) c.in_err-write_4.ensures.writes }
