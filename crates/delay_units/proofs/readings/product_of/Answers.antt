use Rattle.delay_units.proofs.PowerLemmas.{product_bits}
use Rattle.delay_units.proofs.readings.product_of.Goals as goal

pub returns-clause-value : goal.returns-clause-value
returns-clause-value c = product_bits c.args.number.now.digits c.args.unit.now.mantissa c.args.number.now.digits_fit c.args.unit.now.seven_digits
