use Rattle.std.proofs.Common.{length}
use Rattle.edge_io.proofs.Pieces.{Wrote}
use Rattle.edge_io.proofs.writing.write_all.Given as goal

abbrev pub invariant-loop-rest : goal.invariant-loop-rest
invariant-loop-rest g l =
    Wrote l.bytes l.rest (g.O.Sink.written l.fn.sink) (g.O.Sink.written l.sink) (g.O.Sink.faults l.fn.sink) (g.O.Sink.faults l.sink)

abbrev pub decreases-loop-rest : goal.decreases-loop-rest
decreases-loop-rest g l = length l.rest
