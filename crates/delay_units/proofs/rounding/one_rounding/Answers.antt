use Rattle.delay_units.proofs.RoundingLemmas.{one_rounding_lem}
use Rattle.delay_units.proofs.rounding.one_rounding.Goals as goal

pub returns : goal.returns
returns c = record { law = one_rounding_lem }
