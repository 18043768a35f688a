-- The names before this one are written.
use Rattle.std.proofs.Common.{Ok, flat_map, take}
use Rattle.edge_io.specs.Writing.{Writes}
use Rattle.refusals.specs.RefusalLine.{spaced}
use Rattle.refusals.proofs.lines.write_nets.Given as goal

abbrev pub invariant-loop-net : goal.invariant-loop-net
invariant-loop-net g l =
    Writes (flat_map spaced (take l.net-index l.nets)) (g.E.Sink.written l.fn.err) (g.E.Sink.written l.err) (g.E.Sink.faults l.fn.err) (g.E.Sink.faults l.err) (Ok tt)
