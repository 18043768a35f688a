use Rattle.std.proofs.Common.{take}
use Rattle.std.specs.Prelude.{slice_index}
use Rattle.netlist_link.specs.FlatPins.{pins_of}
use Rattle.netlist_link.specs.Designs.{met_of, connections_of, OverCells}
use Rattle.netlist_link.specs.InstanceRows.{ArePinNets}
use Rattle.netlist_link.proofs.instances.set_pin_nets.Given as goal

abbrev pub invariant-loop-c : goal.invariant-loop-c
invariant-loop-c l = OverCells l.design (λ cells. ArePinNets l.design (met_of l.design l.i).path
    (pins_of cells (slice_index l.joints.places.items l.i)) (take l.c (connections_of l.design l.i)) l.nets)
