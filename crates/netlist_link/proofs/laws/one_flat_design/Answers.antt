-- The law is that of the definitions.
use Rattle.netlist_link.proofs.OneLink.{one_design, design_or_end, one_flat_end}
use Rattle.netlist_link.proofs.laws.one_flat_design.Goals as goal

pub returns-clause-netlist : goal.returns-clause-netlist
returns-clause-netlist c = λ modules name cells some other differ apart a b. one_design modules name cells differ apart some other a b

pub returns-clause-either : goal.returns-clause-either
returns-clause-either c = λ modules name cells netlist end differ apart a b. design_or_end modules name cells differ apart netlist end a b

pub returns-clause-ends : goal.returns-clause-ends
returns-clause-ends c = λ modules name cells some other differ apart a b. one_flat_end modules name cells differ apart some other a b
