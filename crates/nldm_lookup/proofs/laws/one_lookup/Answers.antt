use Rattle.nldm_lookup.proofs.OneValue.{one_lookup_lem}
use Rattle.nldm_lookup.proofs.laws.one_lookup.Goals as goal

pub returns : goal.returns
returns c = record { law = one_lookup_lem c.one_rounding.ensures.law }
