-- The law is that of the limits, which are asked in turn.
use Rattle.hierarchy.proofs.OneUse.{one_list, list_or_end, one_end}
use Rattle.hierarchy.proofs.laws.one_use.Goals as goal

pub returns-clause-cells : goal.returns-clause-cells
returns-clause-cells c = λ modules name some other differ a b. one_list modules name differ some other a b

pub returns-clause-either : goal.returns-clause-either
returns-clause-either c = λ modules name cells end differ a b. list_or_end modules name differ cells end a b

pub returns-clause-ends : goal.returns-clause-ends
returns-clause-ends c = λ modules name some other differ a b. one_end modules name differ some other a b
