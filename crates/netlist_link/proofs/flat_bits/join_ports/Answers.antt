use Rattle.netlist_link.proofs.KeepingSteps.{parent_below, instance_within, around_within}
use Rattle.netlist_link.proofs.flat_bits.join_ports.Goals as goal

pub bounds-visits-visits : goal.bounds-visits-visits
bounds-visits-visits c = rw c.visits-visits.ensures (parent_below c.args.design.now c.requires.sound.walk c.args.v c.requires.lower c.requires.visited)

pub connection_count-c-end-requires-clause-within : goal.connection_count-c-end-requires-clause-within
connection_count-c-end-requires-clause-within c =
    rw c.visits-visits.ensures (around_within c.args.design.now c.requires.sound.walk c.args.v c.requires.lower c.requires.visited)

pub connection_count-c-end-requires-clause-place : goal.connection_count-c-end-requires-clause-place
connection_count-c-end-requires-clause-place c =
    rw c.visits-visits.ensures (instance_within c.args.design.now c.requires.sound.walk c.args.v c.requires.lower c.requires.visited)
