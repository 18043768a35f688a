use Rattle.std.proofs.Common.{arith}
use Rattle.delay_units.proofs.PowerLemmas.{ten_le}
use Rattle.delay_units.proofs.tally.ten_to.Goals as goal

pub pow-requires : goal.pow-requires
pow-requires c = omega (arith, ten_le c.args.k 38 c.requires)
