use Rattle.std.proofs.Common.{◌++◌, flat_map, take, Ok}
use Rattle.edge_io.specs.Gathering.{Pushes}
use Rattle.sdf_writer.specs.SdfText.{escaped}
use Rattle.sdf_writer.proofs.text.write_each_escaped.Given as goal

-- the bytes before this one are pushed
abbrev pub invariant-loop-byte : goal.invariant-loop-byte
invariant-loop-byte g l =
    Pushes (l.fn.buffer ++ flat_map escaped (take l.byte-index l.text)) l.buffer
    (g.O.Sink.written l.fn.sink) (g.O.Sink.written l.sink) (g.O.Sink.faults l.fn.sink) (g.O.Sink.faults l.sink) (Ok tt)
