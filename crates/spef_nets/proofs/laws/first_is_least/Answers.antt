-- The tokens of a file stand in its order.
use Rattle.spef_text.proofs.SectionOrder.{sections_in_order}
use Rattle.spef_nets.proofs.FaultOrder.{least_end}
use Rattle.spef_nets.proofs.laws.first_is_least.Goals as goal

pub returns : goal.returns
returns c = record { law = λ file head end formed is. least_end file head end (sections_in_order file formed) is }
