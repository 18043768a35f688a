-- Names stay where others are put behind them.
use Rattle.sdf_writer.specs.PathRows.{edge_times}
use Rattle.sdf_writer.proofs.KeptNames.{names_then, name_later}
use Rattle.sdf_writer.proofs.Keeping.{cells_kept, row_kept}
use Rattle.sdf_writer.proofs.paths.keep_path.Goals as goal

pub keep_cell-requires : goal.keep_cell-requires
keep_cell-requires g c = record { cells = cells_kept c.args.cells.now.items (names_then c.keep_again.ensures.names c.keep_again-2.ensures.names) c.requires.cells }

pub returns-clause-names : goal.returns-clause-names
returns-clause-names g c = names_then (names_then c.keep_again.ensures.names c.keep_again-2.ensures.names) c.keep_cell.ensures.names

pub returns-clause-kept : goal.returns-clause-kept
returns-clause-kept g c =
    let from = name_later (names_then c.keep_again-2.ensures.names c.keep_cell.ensures.names) c.in_ok-from.ensures.kept in
    let to = name_later c.keep_cell.ensures.names c.in_ok-to.ensures.kept in
    row_kept g.C.CornerSet.COUNT c.keep_cell.new.names c.keep_cell.new.cells.items c.keep_edges.new.times.items (record { kind = c.args.row.cell.now; instance = c.args.row.instance.now }) c.args.row.from.now c.args.row.to.now _ (edge_times c.args.rise) (edge_times c.args.fall)
    c.in_ok-cell.ensures.kept from to c.in_ok-edges.ensures.rise c.in_ok-edges.ensures.fall
