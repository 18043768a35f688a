use Rattle.std.proofs.Common.{sym, subst}
use Rattle.net_parasitics.specs.TreeEnds.{IsEndOf, is_refused, is_short}
use Rattle.net_parasitics.specs.declared.ends.ParasiticsEnd.TheVariants.{OutOfMemory}
use Rattle.net_parasitics.proofs.ends.end_of_net.Goals as goal

pub returns-in-OutOfMemory : goal.returns-in-OutOfMemory
returns-in-OutOfMemory c = subst (λ e. IsEndOf c.args.net e OutOfMemory) (sym c.in-OutOfMemory.is) is_short

pub returns-in_default : goal.returns-in_default
returns-in_default c = is_refused c.args.end c.in_default.not-OutOfMemory
