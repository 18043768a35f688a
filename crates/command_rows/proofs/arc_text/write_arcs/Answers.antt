-- One line after another.
use Rattle.std.proofs.lemmas.Result.{err_from_is_err_and}
use Rattle.edge_io.specs.Writing.{items_cut}
use Rattle.command_rows.specs.ArcTexts.{arc_line}
use Rattle.command_rows.proofs.arc_text.write_arcs.Goals as goal

pub returns-in_err-write_arc : goal.returns-in_err-write_arc
returns-in_err-write_arc g c =
    let p = err_from_is_err_and c.from_residual.result c.from_residual.ensures.1 in
    rw (p.1, ← c.as_slice-row-items.ensures) record {
      writes = items_cut arc_line c.as_slice-row-items.result.now c.loop-row.row-index c.row-item.result c.loop-row-test.true c.row-item.is c.loop-row.invariant c.in_err-write_arc.ensures.writes;
    }
