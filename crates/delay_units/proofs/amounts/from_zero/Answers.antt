use Rattle.std.proofs.Common.{rules, pos, ◌<ℤ◌}
use Rattle.delay_units.proofs.AmountLemmas.{amount_below}
use Rattle.delay_units.proofs.amounts.from_zero.Goals as goal

pub returns-then-grains-lt0 : goal.returns-then-grains-lt0
returns-then-grains-lt0 c =
    let low : c.args.grains <ℤ pos 0 = search rules in
    λ unit most text reads few. amount_below unit most text c.args.grains reads low
