use Rattle.std.proofs.Common.{refl}
use Rattle.std.proofs.lemmas.Result.{err_from_is_err_and}
use Rattle.sdf_writer.proofs.Lines.{whole_text}
use Rattle.edge_io.specs.Pushing.{pushes_failed, pushes_flushed}
use Rattle.sdf_writer.proofs.text.write.Goals as goal

pub returns-in_err-write_rows : goal.returns-in_err-write_rows
returns-in_err-write_rows g c =
    let p = err_from_is_err_and c.from_residual.result c.from_residual.ensures.1 in
    let whole = whole_text g.C.CornerSet.COUNT c.new-buffer.ensures c.bytes.ensures refl c.as_slice.ensures.value c.as_slice-2.ensures.value c.rows.view_is in
    rw (p.1, ← whole) (record { writes = pushes_failed c.in_err-write_rows.ensures.pushes })

pub returns-in_err-flush : goal.returns-in_err-flush
returns-in_err-flush g c =
    let p = err_from_is_err_and c.from_residual-in_err-flush.result c.from_residual-in_err-flush.ensures.1 in
    let whole = whole_text g.C.CornerSet.COUNT c.new-buffer.ensures c.bytes.ensures refl c.as_slice.ensures.value c.as_slice-2.ensures.value c.rows.view_is in
    rw (p.1, ← whole) (record { writes = pushes_flushed c.in_ok-write_rows.ensures.pushes c.in_err-flush.ensures.writes })

pub returns : goal.returns
returns g c =
    let whole = whole_text g.C.CornerSet.COUNT c.new-buffer.ensures c.bytes.ensures refl c.as_slice.ensures.value c.as_slice-2.ensures.value c.rows.view_is in
    rw (← whole) (record { writes = pushes_flushed c.in_ok-write_rows.ensures.pushes c.in_ok-flush.ensures.writes })
