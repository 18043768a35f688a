use Rattle.slew_order.proofs.LookupValues.{lookup_function}
use Rattle.slew_order.proofs.laws.lookups_are_a_function.Goals as goal

pub returns : goal.returns
returns c = record { law = lookup_function }
