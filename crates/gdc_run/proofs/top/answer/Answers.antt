-- What is written is the verdict's, and fit for the command.
use Rattle.gdc_run.proofs.top.answer.Goals as goal

pub returns-in-Ok-write_decided-clause-done : goal.returns-in-Ok-write_decided-clause-done
returns-in-Ok-write_decided-clause-done g c = (c.in-Ok.output, c.in-Ok.ensures.follows.0, c.in-Ok.ensures.follows.1, c.in-Ok-write_decided.ensures.writes.ok)
