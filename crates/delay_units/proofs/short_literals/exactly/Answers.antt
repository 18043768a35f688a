-- The product that fits is the reading.
use Rattle.std.proofs.Common.{◌≡◌, ◌*◌, rules}
use Rattle.delay_units.proofs.ShortLemmas.{short_product}
use Rattle.delay_units.proofs.short_literals.exactly.Goals as goal

pub returns : goal.returns
returns c = λ text is.
    let product : c.in_ok-product.product ≡ c.args.short.now.digits * c.args.unit.now.mantissa = search rules in
    short_product c.args.unit.now text c.args.short.now c.in_ok-power.power c.in_ok-product.product c.power_of_ten.result c.checked_mul-2.result _ is c.in_ok-power.ensures.exact product c.power_of_ten.ensures c.checked_mul-2.ensures
