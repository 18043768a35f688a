-- The lines of the instances before this one are written or wait.
use Rattle.std.proofs.Common.{◌++◌, Ok, flat_map, take}
use Rattle.edge_io.specs.Gathering.{Pushes}
use Rattle.command_rows.specs.FlatText.{instance_line}
use Rattle.command_rows.proofs.flat_text.put_instances.Given as goal

abbrev pub invariant-loop-i : goal.invariant-loop-i
invariant-loop-i g l =
    Pushes (l.fn.waiting ++ flat_map (instance_line l.design) (take l.i l.design.netlist.instances)) l.waiting (g.O.Sink.written l.fn.out) (g.O.Sink.written l.out)
    (g.O.Sink.faults l.fn.out) (g.O.Sink.faults l.out) (Ok tt)
