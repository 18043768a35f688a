-- One line after another, and then the last that wait.
use Rattle.std.proofs.Common.{◌≡◌, ◌<◌, ◌≤◌, [], length, ◌∙◌, arith}
use Rattle.std.proofs.lemmas.List.{take_all}
use Rattle.std.proofs.lemmas.Result.{err_from_is_err_and}
use Rattle.edge_io.specs.Pushing.{items_then, items_cut, pushes_failed, pushes_flushed}
use Rattle.sdf_reader.specs.Lines.{row_line}
use Rattle.sdf_reader.proofs.printing.print_rows.Goals as goal

pub returns-in_err-put_row : goal.returns-in_err-put_row
returns-in_err-put_row g c =
    let p = err_from_is_err_and c.from_residual.result c.from_residual.ensures.1 in
    let below : c.loop-row.row-index < length c.deref-row-items.result.now = omega arith in
    let same : c.deref-row-items.result.now ≡ c.args.rows.now = c.deref-row-items.ensures.value ∙ c.rows.view_is in
    rw (p.1, ← same) record {
      writes = pushes_failed (items_cut row_line [] c.deref-row-items.result.now c.loop-row.row-index c.row-item.result {waiting'' = []} below c.loop-row.invariant (rw (c.row-item.is) at c.in_err-put_row.ensures.pushes));
    }

pub loop-row-preserved : goal.loop-row-preserved
loop-row-preserved g c =
    let below : c.loop-row.row-index < length c.deref-row-items.result.now = omega arith in
    items_then row_line [] c.deref-row-items.result.now c.loop-row.row-index c.row-item.result below c.loop-row.invariant (rw (c.row-item.is) at c.in_ok-put_row.ensures.pushes)

pub returns-in_err-flush : goal.returns-in_err-flush
returns-in_err-flush g c =
    let p = err_from_is_err_and c.from_residual-in_err-flush.result c.from_residual-in_err-flush.ensures.1 in
    let same : c.deref-row-items.result.now ≡ c.args.rows.now = c.deref-row-items.ensures.value ∙ c.rows.view_is in
    let past : length c.deref-row-items.result.now ≤ c.loop-row.row-index = omega arith in
    rw (p.1, ← same) record { writes = pushes_flushed (rw (take_all _ c.deref-row-items.result.now past) at c.loop-row.invariant) c.in_err-flush.ensures.writes }

pub returns : goal.returns
returns g c =
    let same : c.deref-row-items.result.now ≡ c.args.rows.now = c.deref-row-items.ensures.value ∙ c.rows.view_is in
    let past : length c.deref-row-items.result.now ≤ c.loop-row.row-index = omega arith in
    rw (← same) record { writes = pushes_flushed (rw (take_all _ c.deref-row-items.result.now past) at c.loop-row.invariant) c.in_ok-flush.ensures.writes }
