use Rattle.std.proofs.Common.{◌∷◌, ◌++◌, flat_map, take, Ok}
use Rattle.delay_units.specs.Printing.{femto_text}
use Rattle.edge_io.specs.Gathering.{Pushes}
use Rattle.sdf_writer.proofs.values.write_others.Given as goal

-- the numbers before this one are pushed
abbrev pub invariant-loop-time : goal.invariant-loop-time
invariant-loop-time g l =
    Pushes (l.fn.buffer ++ flat_map (λ time. 58 ∷ femto_text time) (take l.time-index l.others)) l.buffer
    (g.O.Sink.written l.fn.sink) (g.O.Sink.written l.sink) (g.O.Sink.faults l.fn.sink) (g.O.Sink.faults l.sink) (Ok tt)
