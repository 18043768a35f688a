use Rattle.std.proofs.Common.{◌≡◌, ℕ, ℤ, pos, ◌-ℤ◌, ◌≤◌, sym, subst, to_z, of_z, arith}
use Rattle.std.specs.Int.{w64}
use Rattle.std.proofs.lemmas.Int.{ints}
use Rattle.nldm_lookup.specs.Axes.{most}
use Rattle.nldm_lookup.specs.Betweens.{Between, AreNeighbours, neighbours}
use Rattle.nldm_lookup.specs.Rows.{IsOn}
use Rattle.nldm_lookup.proofs.Ends.{on_pair}
use Rattle.nldm_lookup.proofs.axis.Axis.neighbours.Goals as goal

distance : (a b : ℕ) → a ≤ most → b ≤ most → to_z w64 (of_z w64 (to_z w64 a -ℤ to_z w64 b)) ≡ pos a -ℤ pos b
distance a b small few = omega (arith, ints, small, few)

moved : (P : Between → Type 0) (place : ℕ) (low low' high high' : ℤ) → low' ≡ low → high' ≡ high
    → P (record { place = place; low = low; high = high }) → P (record { place = place; low = low'; high = high' })
moved P place low low' high high' one other p =
    subst (λ l. P (record { place = place; low = l; high = high' })) (sym one) (subst (λ h. P (record { place = place; low = low; high = h })) (sym other) p)

pub overflow_add-place : goal.overflow_add-place
overflow_add-place g c = omega (arith, c.requires.whole.few, c.gap_of-place.ensures.within)

pub returns-clause-neighbours : goal.returns-clause-neighbours
returns-clause-neighbours g c =
    let place = c.gap_of-place.result in
    let lower = c.point-lower.result in
    let upper = c.point-upper.result in
    moved (λ b. AreNeighbours c.args.self.now c.args.near c.args.at b) place _ _ _ _
    (distance upper c.args.at c.point-upper.ensures.small c.requires.small) (distance c.args.at lower c.requires.small c.point-lower.ensures.small)
    (neighbours place lower upper c.point-lower.ensures.value c.point-upper.ensures.value
    (omega (arith, c.gap_of-place.ensures.lower, c.point-lower.ensures.index)) (omega (arith, c.gap_of-place.ensures.upper, c.point-upper.ensures.index)))

pub returns-clause-on : goal.returns-clause-on
returns-clause-on g c =
    let place = c.gap_of-place.result in
    let lower = c.point-lower.result in
    let upper = c.point-upper.result in
    moved (λ b. IsOn c.args.self.now b) place _ _ _ _
    (distance upper c.args.at c.point-upper.ensures.small c.requires.small) (distance c.args.at lower c.requires.small c.point-lower.ensures.small)
    (on_pair c.args.self.now place lower upper c.args.at c.requires.whole c.point-lower.ensures.value c.point-upper.ensures.value c.requires.small)
