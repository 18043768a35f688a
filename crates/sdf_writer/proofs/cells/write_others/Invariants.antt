-- The paths before this one are pushed.
use Rattle.std.proofs.Common.{◌<◌, drop, length}
use Rattle.sdf_writer.specs.PathRows.{cell_at, path_rows, rest_text}
use Rattle.sdf_writer.proofs.PathsLeft.{WroteUpTo}
use Rattle.sdf_writer.proofs.cells.write_others.Given as goal

abbrev pub invariant-loop-path : goal.invariant-loop-path
invariant-loop-path g l =
    let count = g.C.CornerSet.COUNT in
    (l.before < length l.cells) ×
    WroteUpTo (rest_text (cell_at l.names l.cells l.cell) (path_rows count l.names l.cells l.times l.paths)) (cell_at l.names l.cells l.before) (path_rows count l.names l.cells l.times (drop l.path-index l.paths)) l.fn.buffer l.buffer
    (g.O.Sink.written l.fn.sink) (g.O.Sink.written l.sink) (g.O.Sink.faults l.fn.sink) (g.O.Sink.faults l.sink)
