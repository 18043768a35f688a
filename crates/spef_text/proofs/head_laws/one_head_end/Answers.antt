use Rattle.spef_text.proofs.HeadLemmas.{no_end, one_end}
use Rattle.spef_text.proofs.head_laws.one_head_end.Goals as goal

pub returns-clause-none : goal.returns-clause-none
returns-clause-none c = no_end

pub returns-clause-one : goal.returns-clause-one
returns-clause-one c = one_end
