-- The lines of the rows before this one are written.
use Rattle.std.proofs.Common.{Ok, flat_map, take}
use Rattle.edge_io.specs.Writing.{Writes}
use Rattle.command_rows.specs.ArcTexts.{arc_line}
use Rattle.command_rows.proofs.arc_text.write_arcs.Given as goal

abbrev pub invariant-loop-row : goal.invariant-loop-row
invariant-loop-row g l =
    Writes (flat_map arc_line (take l.row-index l.row-items)) (g.O.Sink.written l.fn.out) (g.O.Sink.written l.out) (g.O.Sink.faults l.fn.out) (g.O.Sink.faults l.out) (Ok tt)
