use Rattle.net_parasitics.proofs.OneAnswer.{one_delays, no_end, one_end}
use Rattle.net_parasitics.proofs.laws.one_answer.Goals as goal

-- src/laws.rt
pub returns-clause-delays : goal.returns-clause-delays
returns-clause-delays c = one_delays

pub returns-clause-either : goal.returns-clause-either
returns-clause-either c = no_end

pub returns-clause-ends : goal.returns-clause-ends
returns-clause-ends c = one_end
