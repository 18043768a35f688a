-- The netlist and the cells are those of the design.
use Rattle.delay_core.proofs.design_timing.time_design.Goals as goal

pub returns-clause-follows : goal.returns-clause-follows
returns-clause-follows g c = rw (← c.linked.ensures.netlist, ← c.linked.ensures.cells) c.time_netlist.ensures.follows

pub returns-clause-steps : goal.returns-clause-steps
returns-clause-steps g c = rw (← c.linked.ensures.netlist, ← c.linked.ensures.cells) c.time_netlist.ensures.steps

pub returns-clause-sound : goal.returns-clause-sound
returns-clause-sound g c = rw (← c.linked.ensures.cells) c.time_netlist.ensures.sound
