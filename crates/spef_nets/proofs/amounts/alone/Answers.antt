-- The one reading is that of all three members.
use Rattle.spef_nets.proofs.AmountLemmas.{alone_good, alone_bad}
use Rattle.spef_nets.proofs.amounts.alone.Goals as goal

pub returns-in-Ok : goal.returns-in-Ok
returns-in-Ok c = λ unit most text is. alone_good unit most text c.args.number c.in-Ok.grains c.in-Ok.is is

pub returns-in-Err : goal.returns-in-Err
returns-in-Err c = λ unit most text is. alone_bad unit most text c.args.number c.in-Err.fault c.in-Err.is is
