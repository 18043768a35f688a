use Rattle.spef_text.proofs.MapOrder.{map_in_order}
use Rattle.spef_text.proofs.head_laws.map_in_order.Goals as goal

pub returns : goal.returns
returns c = record { law = map_in_order }
