-- One corner is the corners of a run that has one.
use Rattle.wire_phases.proofs.wire_rows.sole_nets.Goals as goal

pub returns : goal.returns
returns c = record { follows = c.nets_of.ensures.follows }
