-- The lines of the rows before this one are written or wait.
use Rattle.std.proofs.Common.{take, Ok}
use Rattle.edge_io.specs.Gathering.{Pushes}
use Rattle.sdf_reader.specs.Lines.{rows_text}
use Rattle.sdf_reader.proofs.printing.print_rows.Given as goal

abbrev pub invariant-loop-row : goal.invariant-loop-row
invariant-loop-row g l =
    Pushes (rows_text (take l.row-index l.row-items)) l.waiting (g.O.Sink.written l.fn.sink) (g.O.Sink.written l.sink) (g.O.Sink.faults l.fn.sink) (g.O.Sink.faults l.sink) (Ok tt)
