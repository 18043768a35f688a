-- What the command gives is the verdict's, and fit for the command.
use Rattle.gdc_run.proofs.top.decide.Goals as goal

pub returns-clause-follows : goal.returns-clause-follows
returns-clause-follows g c = ((c.in_ok-asked.asked, c.in_ok-asked.ensures.ok, c.in_ok-output.ensures.follows), c.in_ok-output.ensures.fit)
