use Rattle.std.proofs.Common.{sym, ap, subst}
use Rattle.net_parasitics.specs.Inputs.{Inputs, AreSound}
use Rattle.net_parasitics.proofs.inputs.NetInputs.sound.Goals as goal

-- src/inputs.rt
pub returns-clause-count : goal.returns-clause-count
returns-clause-count g c = sym (ap (λ (i : Inputs). i.count) c.self.view_is)

pub returns-clause-sound : goal.returns-clause-sound
returns-clause-sound g c = subst AreSound c.self.view_is c.self.invariant
