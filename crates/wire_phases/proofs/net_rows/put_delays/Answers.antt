use Rattle.wire_phases.proofs.net_rows.put_delays.Goals as goal

pub returns-clause-delays : goal.returns-clause-delays
returns-clause-delays g c node below = c.elmore_into.ensures.delays node tt below
