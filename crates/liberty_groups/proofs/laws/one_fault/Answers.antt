-- The law is a lemma.
use Rattle.liberty_groups.proofs.OneFault.{one_fault}
use Rattle.liberty_groups.proofs.laws.one_fault.Goals as goal

pub returns : goal.returns
returns c = record { law = one_fault; apart = λ bytes tree fault says is. is.nothing tree says }
