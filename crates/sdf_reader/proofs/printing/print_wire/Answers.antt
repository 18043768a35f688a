-- A front of the line was written where a write failed.
use Rattle.std.proofs.lemmas.Result.{err_from_is_err_and}
use Rattle.std.proofs.Common.{ℕ, List, [], ◌∷◌, ◌++◌}
use Rattle.std.specs.Prelude.{codes}
use Rattle.sdf_reader.specs.Lines.{names_text, wire_values_text}
use Rattle.edge_io.specs.Writing.{writes_cut, writes_then}
use Rattle.sdf_reader.proofs.printing.print_wire.Goals as goal

pub returns-in_err-write_all : goal.returns-in_err-write_all
returns-in_err-write_all g c =
    let names : List ℕ = names_text c.args.from.now c.args.to.now in
    let values : List ℕ = wire_values_text c.args.rise.now c.args.fall.now in
    let p = err_from_is_err_and c.from_residual.result c.from_residual.ensures.1 in
    rw (p.1) record { writes = writes_cut (codes "wire " ++ names ++ values) (10 ∷ []) (writes_cut (codes "wire " ++ names) values (writes_cut (codes "wire ") names c.in_err-write_all.ensures.writes)) }

pub returns-in_err-write_4 : goal.returns-in_err-write_4
returns-in_err-write_4 g c =
    let p = err_from_is_err_and c.from_residual-in_err-write_4.result c.from_residual-in_err-write_4.ensures.1 in
    rw (p.1) record { writes = writes_cut _ _ (writes_cut _ _ (writes_then _ _ c.in_ok-write_all.ensures.writes c.in_err-write_4.ensures.writes)) }

pub returns-in_err-print_values : goal.returns-in_err-print_values
returns-in_err-print_values g c =
    let p = err_from_is_err_and c.from_residual-in_err-print_values.result c.from_residual-in_err-print_values.ensures.1 in
    rw (p.1) record { writes = writes_cut _ _ (writes_then _ _ (writes_then _ _ c.in_ok-write_all.ensures.writes c.in_ok-write_4.ensures.writes) c.in_err-print_values.ensures.writes) }

pub returns-in_err-write_all-2 : goal.returns-in_err-write_all-2
returns-in_err-write_all-2 g c =
    let p = err_from_is_err_and c.from_residual-in_err-write_all-2.result c.from_residual-in_err-write_all-2.ensures.1 in
    rw (p.1) record { writes = writes_then _ _ (writes_then _ _ (writes_then _ _ c.in_ok-write_all.ensures.writes c.in_ok-write_4.ensures.writes) c.in_ok-print_values.ensures.writes) c.in_err-write_all-2.ensures.writes }
