-- The first cell, its first path, and the paths behind it.
use Rattle.std.proofs.Common.{Ok, Err, ◌++◌, get_or, refl}
use Rattle.std.proofs.lemmas.Result.{err_from_is_err_and}
use Rattle.sdf_writer.specs.PathRows.{cell_at, opening_text, rest_text}
use Rattle.edge_io.specs.Pushing.{pushes_stop, pushes_then}
use Rattle.sdf_writer.proofs.PathsLeft.{no_path, kept_line, other_rows, first_parts}
use Rattle.sdf_writer.proofs.cells.write_all_cells.Goals as goal

pub returns-in_err-write_opening : goal.returns-in_err-write_opening
returns-in_err-write_opening g c =
    let p = err_from_is_err_and c.from_residual.result c.from_residual.ensures.1 in
    let first = get_or c.args.paths.now 0 no_path in
    let cell = cell_at c.args.names.now c.args.cells.now first.cell in
    let line = kept_line g.C.CornerSet.COUNT c.args.names.now c.args.times.now first in
    let rest = rest_text cell (other_rows g.C.CornerSet.COUNT c.args.names.now c.args.cells.now c.args.times.now c.args.paths.now) in
    let parts = first_parts g.C.CornerSet.COUNT c.args.names.now c.args.cells.now c.args.times.now c.args.paths.now first c.in-len1-up.len_at_least refl in
    rw (p.1, parts) (record { pushes = pushes_stop c.args.buffer.now (opening_text cell) (line ++ rest) c.in_err-write_opening.ensures.pushes })

pub returns-in_err-write_path : goal.returns-in_err-write_path
returns-in_err-write_path g c =
    let p = err_from_is_err_and c.from_residual-in_err-write_path.result c.from_residual-in_err-write_path.ensures.1 in
    let first = get_or c.args.paths.now 0 no_path in
    let cell = cell_at c.args.names.now c.args.cells.now first.cell in
    let line = kept_line g.C.CornerSet.COUNT c.args.names.now c.args.times.now first in
    let rest = rest_text cell (other_rows g.C.CornerSet.COUNT c.args.names.now c.args.cells.now c.args.times.now c.args.paths.now) in
    let parts = first_parts g.C.CornerSet.COUNT c.args.names.now c.args.cells.now c.args.times.now c.args.paths.now first c.in-len1-up.len_at_least refl in
    rw (p.1, parts) (record {
      pushes = pushes_then c.args.buffer.now (opening_text cell) (line ++ rest) {result = Err _} c.in_ok-write_opening.ensures.pushes
          (pushes_stop c.write_opening.new.buffer line rest c.in_err-write_path.ensures.pushes);
    })

pub returns-in_err-write_others : goal.returns-in_err-write_others
returns-in_err-write_others g c =
    let p = err_from_is_err_and c.from_residual-in_err-write_others.result c.from_residual-in_err-write_others.ensures.1 in
    let first = get_or c.args.paths.now 0 no_path in
    let cell = cell_at c.args.names.now c.args.cells.now first.cell in
    let line = kept_line g.C.CornerSet.COUNT c.args.names.now c.args.times.now first in
    let rest = rest_text cell (other_rows g.C.CornerSet.COUNT c.args.names.now c.args.cells.now c.args.times.now c.args.paths.now) in
    let parts = first_parts g.C.CornerSet.COUNT c.args.names.now c.args.cells.now c.args.times.now c.args.paths.now first c.in-len1-up.len_at_least refl in
    rw (p.1, parts) (record {
      pushes = pushes_then c.args.buffer.now (opening_text cell) (line ++ rest) {result = Err _} c.in_ok-write_opening.ensures.pushes
          (pushes_then c.write_opening.new.buffer line rest {result = Err _} c.in_ok-write_path.ensures.pushes c.in_err-write_others.ensures.pushes);
    })

pub returns-in_ok-write_others : goal.returns-in_ok-write_others
returns-in_ok-write_others g c =
    let first = get_or c.args.paths.now 0 no_path in
    let cell = cell_at c.args.names.now c.args.cells.now first.cell in
    let line = kept_line g.C.CornerSet.COUNT c.args.names.now c.args.times.now first in
    let rest = rest_text cell (other_rows g.C.CornerSet.COUNT c.args.names.now c.args.cells.now c.args.times.now c.args.paths.now) in
    let parts = first_parts g.C.CornerSet.COUNT c.args.names.now c.args.cells.now c.args.times.now c.args.paths.now first c.in-len1-up.len_at_least refl in
    rw (parts) (record {
      pushes = pushes_then c.args.buffer.now (opening_text cell) (line ++ rest) {result = Ok tt} c.in_ok-write_opening.ensures.pushes
          (pushes_then c.write_opening.new.buffer line rest {result = Ok tt} c.in_ok-write_path.ensures.pushes c.in_ok-write_others.ensures.pushes);
    })
