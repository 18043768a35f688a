use Rattle.std.proofs.Common.{◌≡◌, ◌<◌, ◌^◌, pos, sym, subst, arith, rules}
use Rattle.std.specs.Int.{w128}
use Rattle.std.proofs.lemmas.Int.{to_z_pos}
use mir.Val.{to_z}
use Rattle.delay_units.specs.SignedAmounts.{IsSignedAmountOf}
use Rattle.delay_units.specs.declared.signed_amounts.SignedAmount.TheVariants.{Within}
use Rattle.delay_units.proofs.SignedAmountLemmas.{signed_within, signed_past}
use Rattle.delay_units.proofs.signed_amounts.up_to.Goals as goal

pub returns-then-grains-most : goal.returns-then-grains-most
returns-then-grains-most c = λ unit text reads.
    let small : c.args.grains < 2 ^ 64 = search rules in
    let same : to_z w128 c.args.grains ≡ pos c.args.grains = to_z_pos w128 c.args.grains (omega (arith, small)) in
    subst (λ v. IsSignedAmountOf unit c.args.most text (Within v)) (sym same) (signed_within unit c.args.most text (pos c.args.grains) reads c.if-grains-most.true)

pub returns-else-grains-most : goal.returns-else-grains-most
returns-else-grains-most c = λ unit text reads. signed_past unit c.args.most text c.args.grains reads c.if-grains-most.false
