-- A front of the line was written where a write failed.
use Rattle.std.proofs.Common.{List, ℕ, [], ◌∷◌, ◌++◌, codes}
use Rattle.std.proofs.lemmas.Result.{err_from_is_err_and}
use Rattle.delay_units.specs.Printing.{signed_fixed_text}
use Rattle.edge_io.specs.Writing.{writes_cut, writes_then}
use Rattle.sdf_reader.specs.Lines.{counts_text, time_text}
use Rattle.sdf_reader.proofs.summary.print_line.Goals as goal

pub returns-in_err-print_counts : goal.returns-in_err-print_counts
returns-in_err-print_counts g c =
    let counts : List ℕ = counts_text c.args.summary.now.wires c.args.summary.now.paths in
    let sum : List ℕ = signed_fixed_text 3 c.args.summary.now.sum in
    let most : List ℕ = time_text c.args.summary.now.largest in
    let p = err_from_is_err_and c.from_residual.result c.from_residual.ensures.1 in
    rw (p.1) record { writes = writes_cut (counts ++ codes " sum " ++ sum ++ codes " largest " ++ most) (10 ∷ []) (writes_cut (counts ++ codes " sum " ++ sum ++ codes " largest ") (most) (writes_cut (counts ++ codes " sum " ++ sum) (codes " largest ") (writes_cut (counts ++ codes " sum ") (sum) (writes_cut (counts) (codes " sum ") c.in_err-print_counts.ensures.writes)))) }

pub returns-in_err-write_all : goal.returns-in_err-write_all
returns-in_err-write_all g c =
    let counts : List ℕ = counts_text c.args.summary.now.wires c.args.summary.now.paths in
    let sum : List ℕ = signed_fixed_text 3 c.args.summary.now.sum in
    let most : List ℕ = time_text c.args.summary.now.largest in
    let p = err_from_is_err_and c.from_residual-in_err-write_all.result c.from_residual-in_err-write_all.ensures.1 in
    rw (p.1) record { writes = writes_cut (counts ++ codes " sum " ++ sum ++ codes " largest " ++ most) (10 ∷ []) (writes_cut (counts ++ codes " sum " ++ sum ++ codes " largest ") (most) (writes_cut (counts ++ codes " sum " ++ sum) (codes " largest ") (writes_cut (counts ++ codes " sum ") (sum) (writes_then (counts) (codes " sum ") c.in_ok-print_counts.ensures.writes c.in_err-write_all.ensures.writes)))) }

pub returns-in_err-print_sum : goal.returns-in_err-print_sum
returns-in_err-print_sum g c =
    let counts : List ℕ = counts_text c.args.summary.now.wires c.args.summary.now.paths in
    let sum : List ℕ = signed_fixed_text 3 c.args.summary.now.sum in
    let most : List ℕ = time_text c.args.summary.now.largest in
    let p = err_from_is_err_and c.from_residual-in_err-print_sum.result c.from_residual-in_err-print_sum.ensures.1 in
    rw (p.1) record { writes = writes_cut (counts ++ codes " sum " ++ sum ++ codes " largest " ++ most) (10 ∷ []) (writes_cut (counts ++ codes " sum " ++ sum ++ codes " largest ") (most) (writes_cut (counts ++ codes " sum " ++ sum) (codes " largest ") (writes_then (counts ++ codes " sum ") (sum) (writes_then (counts) (codes " sum ") c.in_ok-print_counts.ensures.writes c.in_ok-write_all.ensures.writes) c.in_err-print_sum.ensures.writes))) }

pub returns-in_err-write_all-2 : goal.returns-in_err-write_all-2
returns-in_err-write_all-2 g c =
    let counts : List ℕ = counts_text c.args.summary.now.wires c.args.summary.now.paths in
    let sum : List ℕ = signed_fixed_text 3 c.args.summary.now.sum in
    let most : List ℕ = time_text c.args.summary.now.largest in
    let p = err_from_is_err_and c.from_residual-in_err-write_all-2.result c.from_residual-in_err-write_all-2.ensures.1 in
    rw (p.1) record { writes = writes_cut (counts ++ codes " sum " ++ sum ++ codes " largest " ++ most) (10 ∷ []) (writes_cut (counts ++ codes " sum " ++ sum ++ codes " largest ") (most) (writes_then (counts ++ codes " sum " ++ sum) (codes " largest ") (writes_then (counts ++ codes " sum ") (sum) (writes_then (counts) (codes " sum ") c.in_ok-print_counts.ensures.writes c.in_ok-write_all.ensures.writes) c.in_ok-print_sum.ensures.writes) c.in_err-write_all-2.ensures.writes)) }

pub returns-in_err-print_largest : goal.returns-in_err-print_largest
returns-in_err-print_largest g c =
    let counts : List ℕ = counts_text c.args.summary.now.wires c.args.summary.now.paths in
    let sum : List ℕ = signed_fixed_text 3 c.args.summary.now.sum in
    let most : List ℕ = time_text c.args.summary.now.largest in
    let p = err_from_is_err_and c.from_residual-in_err-print_largest.result c.from_residual-in_err-print_largest.ensures.1 in
    rw (p.1) record { writes = writes_cut (counts ++ codes " sum " ++ sum ++ codes " largest " ++ most) (10 ∷ []) (writes_then (counts ++ codes " sum " ++ sum ++ codes " largest ") (most) (writes_then (counts ++ codes " sum " ++ sum) (codes " largest ") (writes_then (counts ++ codes " sum ") (sum) (writes_then (counts) (codes " sum ") c.in_ok-print_counts.ensures.writes c.in_ok-write_all.ensures.writes) c.in_ok-print_sum.ensures.writes) c.in_ok-write_all-2.ensures.writes) c.in_err-print_largest.ensures.writes) }

pub returns-in_err-write_all-3 : goal.returns-in_err-write_all-3
returns-in_err-write_all-3 g c =
    let counts : List ℕ = counts_text c.args.summary.now.wires c.args.summary.now.paths in
    let sum : List ℕ = signed_fixed_text 3 c.args.summary.now.sum in
    let most : List ℕ = time_text c.args.summary.now.largest in
    let p = err_from_is_err_and c.from_residual-in_err-write_all-3.result c.from_residual-in_err-write_all-3.ensures.1 in
    rw (p.1) record { writes = writes_then (counts ++ codes " sum " ++ sum ++ codes " largest " ++ most) (10 ∷ []) (writes_then (counts ++ codes " sum " ++ sum ++ codes " largest ") (most) (writes_then (counts ++ codes " sum " ++ sum) (codes " largest ") (writes_then (counts ++ codes " sum ") (sum) (writes_then (counts) (codes " sum ") c.in_ok-print_counts.ensures.writes c.in_ok-write_all.ensures.writes) c.in_ok-print_sum.ensures.writes) c.in_ok-write_all-2.ensures.writes) c.in_ok-print_largest.ensures.writes) c.in_err-write_all-3.ensures.writes }

pub returns : goal.returns
returns g c =
    let counts : List ℕ = counts_text c.args.summary.now.wires c.args.summary.now.paths in
    let sum : List ℕ = signed_fixed_text 3 c.args.summary.now.sum in
    let most : List ℕ = time_text c.args.summary.now.largest in
    record { writes = writes_then (counts ++ codes " sum " ++ sum ++ codes " largest " ++ most) (10 ∷ []) (writes_then (counts ++ codes " sum " ++ sum ++ codes " largest ") (most) (writes_then (counts ++ codes " sum " ++ sum) (codes " largest ") (writes_then (counts ++ codes " sum ") (sum) (writes_then (counts) (codes " sum ") c.in_ok-print_counts.ensures.writes c.in_ok-write_all.ensures.writes) c.in_ok-print_sum.ensures.writes) c.in_ok-write_all-2.ensures.writes) c.in_ok-print_largest.ensures.writes) c.in_ok-write_all-3.ensures.writes }
