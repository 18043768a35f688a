use Rattle.std.proofs.Common.{drop}
use Rattle.sdf_writer.specs.WireRows.{wire_rows, wires_text}
use Rattle.sdf_writer.proofs.Remaining.{Wrote}
use Rattle.sdf_writer.proofs.entries.write_wires.Given as goal

abbrev pub invariant-loop-wire : goal.invariant-loop-wire
invariant-loop-wire g l =
    let count = g.C.CornerSet.COUNT in
    Wrote count l.names (wires_text (wire_rows count l.names l.wires l.delays)) (drop l.wire-index l.wires) l.rest l.fn.buffer l.buffer
    (g.O.Sink.written l.fn.sink) (g.O.Sink.written l.sink) (g.O.Sink.faults l.fn.sink) (g.O.Sink.faults l.sink)
