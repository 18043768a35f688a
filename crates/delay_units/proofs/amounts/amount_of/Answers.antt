-- The number of grains that is within the bound with a sign, as one from 0 on.
use Rattle.std.proofs.Common.{rules, arith, ◌≤◌, ◌<◌, ◌^◌, unsigned_abs}
use Rattle.std.specs.Int.{w128}
use Rattle.std.proofs.lemmas.Int.{to_z-of_z}
use mir.Val.{SFits}
use Rattle.delay_units.proofs.AmountLemmas.{signed_reads, signed_few}
use Rattle.delay_units.proofs.amounts.amount_of.Goals as goal

pub returns-in-Within : goal.returns-in-Within
returns-in-Within c = λ text is.
    let small : SFits w128 c.in-Within.grains = search rules in
    let answer = simp to_z-of_z at c.from_zero.ensures in
    answer c.args.unit.now c.args.most text
    (signed_reads c.args.unit.now c.args.most text c.in-Within.grains (c.in-Within.ensures.amount text is))
    (signed_few c.args.unit.now c.args.most text c.in-Within.grains (c.in-Within.ensures.amount text is))

pub from_zero-requires : goal.from_zero-requires
from_zero-requires c =
    let small : SFits w128 c.in-Within.grains = search rules in
    let few : unsigned_abs c.in-Within.grains ≤ c.args.most = c.in-Within.ensures.bound in
    let bound : c.args.most < 2 ^ 64 = search rules in
    simp to_z-of_z (omega (arith, few, bound))
