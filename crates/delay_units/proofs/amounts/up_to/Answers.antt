use Rattle.delay_units.proofs.AmountLemmas.{amount_past}
use Rattle.delay_units.proofs.amounts.up_to.Goals as goal

pub returns-else-grains-most : goal.returns-else-grains-most
returns-else-grains-most c = λ unit text reads. amount_past unit c.args.most text c.args.grains reads c.if-grains-most.false
