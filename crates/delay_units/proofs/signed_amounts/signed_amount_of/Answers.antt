-- The reading that is within the bound, and the sign of one that is not.
use Rattle.std.proofs.Common.{rules, arith, ◌≡◌, ◌≤◌, ℤ, pos, ◌<ℤ◌, unsigned_abs, subst, ◌∙◌}
use Rattle.std.specs.Int.{w128}
use Rattle.std.proofs.lemmas.Int.{ints, to_z-of_z}
use mir.Val.{SFits, to_z, of_z}
use Rattle.delay_units.specs.Reading.{IsReading}
use Rattle.delay_units.proofs.FrontSteps.{unread_for, number_for, past_keeps_bound}
use Rattle.delay_units.proofs.ReadingLemmas.{reads_as}
use Rattle.delay_units.proofs.SignedAmountLemmas.{signed_within, signed_past_in_size}
use Rattle.delay_units.proofs.signed_amounts.signed_amount_of.Goals as goal

pub returns-in-Some-clause-amount : goal.returns-in-Some-clause-amount
returns-in-Some-clause-amount c = λ text is.
    let fits : SFits w128 c.limit.result = search rules in
    let most : to_z w128 (of_z w128 c.limit.result) ≡ pos c.args.most = to_z-of_z w128 c.limit.result fits ∙ c.limit.ensures in
    let few : unsigned_abs c.in-Some.grains ≤ c.args.most = omega (arith, ints, most, c.in-Some.ensures.within) in
    let small : SFits w128 c.in-Some.grains = search rules in
    simp to_z-of_z (
    signed_within c.args.unit.now c.args.most text c.in-Some.grains
    (reads_as c.args.unit.now text c.in-Ok.number c.in-Some.grains (number_for text _ c.in-Ok.number c.in-Ok.is is) c.in-Some.ensures.reading) few)

pub returns-in-None-clause-amount : goal.returns-in-None-clause-amount
returns-in-None-clause-amount c = λ text is.
    let fits : SFits w128 c.limit.result = search rules in
    let most : to_z w128 (of_z w128 c.limit.result) ≡ pos c.args.most = to_z-of_z w128 c.limit.result fits ∙ c.limit.ensures in
    signed_past_in_size c.args.unit.now c.args.most text c.in-Ok.number c.past_in_size.result (number_for text _ c.in-Ok.number c.in-Ok.is is)
    (subst (λ (x : ℤ). (v : ℤ) × IsReading c.in-Ok.number c.args.unit.now v × (x <ℤ pos (unsigned_abs v))) most c.in-None.ensures.past)
    c.past_in_size.ensures.below c.past_in_size.ensures.above

pub returns-in_default-clause-amount : goal.returns-in_default-clause-amount
returns-in_default-clause-amount c = λ text is. unread_for c.args.unit.now c.args.most text _ _ c.in_default.is is

pub returns-in-Some-clause-bound : goal.returns-in-Some-clause-bound
returns-in-Some-clause-bound c =
    let fits : SFits w128 c.limit.result = search rules in
    let most : to_z w128 (of_z w128 c.limit.result) ≡ pos c.args.most = to_z-of_z w128 c.limit.result fits ∙ c.limit.ensures in
    let few : unsigned_abs c.in-Some.grains ≤ c.args.most = omega (arith, ints, most, c.in-Some.ensures.within) in
    let small : SFits w128 c.in-Some.grains = search rules in
    simp to_z-of_z few

pub returns-in-None-clause-bound : goal.returns-in-None-clause-bound
returns-in-None-clause-bound c =
    past_keeps_bound c.args.most c.in-Ok.number.digits c.past_in_size.result c.past_in_size.ensures.below c.past_in_size.ensures.above
