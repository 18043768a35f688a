-- The lines of the nets before this one are written or wait.
use Rattle.std.proofs.Common.{◌++◌, Ok, flat_map, take}
use Rattle.edge_io.specs.Gathering.{Pushes}
use Rattle.command_rows.specs.FlatText.{net_line}
use Rattle.command_rows.proofs.flat_text.put_nets.Given as goal

abbrev pub invariant-loop-n : goal.invariant-loop-n
invariant-loop-n g l =
    Pushes (l.fn.waiting ++ flat_map (net_line l.design) (take l.n l.design.netlist.nets)) l.waiting (g.O.Sink.written l.fn.out) (g.O.Sink.written l.out)
    (g.O.Sink.faults l.fn.out) (g.O.Sink.faults l.out) (Ok tt)
