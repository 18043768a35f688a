use Rattle.slew_order.proofs.OneSlewEnd.{slews_or_end, one_slew_end}
use Rattle.slew_order.proofs.OneTables.{one_slews}
use Rattle.slew_order.proofs.laws.slews_are_one.Goals as goal

-- src/laws.rt
pub returns-clause-slews : goal.returns-clause-slews
returns-clause-slews c = one_slews

pub returns-clause-either : goal.returns-clause-either
returns-clause-either c = slews_or_end

pub returns-clause-ends : goal.returns-clause-ends
returns-clause-ends c = one_slew_end
