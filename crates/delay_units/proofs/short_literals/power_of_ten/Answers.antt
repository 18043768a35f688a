-- The items of the table rise by ten.
use Rattle.delay_units.proofs.Powers.{power_at}
use Rattle.delay_units.proofs.short_literals.power_of_ten.Goals as goal

pub returns : goal.returns
returns c = power_at c.args.power c.requires
