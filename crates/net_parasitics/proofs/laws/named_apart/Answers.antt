use Rattle.net_parasitics.proofs.NamedApart.{named_apart}
use Rattle.net_parasitics.proofs.laws.named_apart.Goals as goal

-- src/laws.rt
pub returns : goal.returns
returns c = named_apart
