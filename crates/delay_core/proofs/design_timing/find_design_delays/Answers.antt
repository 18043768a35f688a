-- The netlist and the cells are those of the design.
use Rattle.delay_core.proofs.design_timing.find_design_delays.Goals as goal

pub returns-clause-follows : goal.returns-clause-follows
returns-clause-follows g c = rw (← c.linked.ensures.netlist, ← c.linked.ensures.cells) c.find_delays.ensures.follows

pub returns-clause-work : goal.returns-clause-work
returns-clause-work g c = rw (← c.linked.ensures.netlist, ← c.linked.ensures.cells) c.find_delays.ensures.work
