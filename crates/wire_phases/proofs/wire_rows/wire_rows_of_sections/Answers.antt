-- A refusal of a net comes when all sections are read.
use Rattle.wire_phases.proofs.SpefWork.{late_refusal}
use Rattle.wire_phases.proofs.wire_rows.wire_rows_of_sections.Goals as goal

pub returns-clause-no_steps : goal.returns-clause-no_steps
returns-clause-no_steps g c = late_refusal _ c.args.steps.now c.rows_of_nets.new.steps c.rows_of_nets.result c.rows_of_nets.ensures.follows
