use Rattle.wire_slews.proofs.OneSlew.{one_wire_slew_lem}
use Rattle.wire_slews.proofs.laws.one_wire_slew.Goals as goal

pub returns : goal.returns
returns c = record { law = one_wire_slew_lem c.one_rounding.ensures.law }
