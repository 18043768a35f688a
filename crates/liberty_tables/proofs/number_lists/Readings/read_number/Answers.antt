use Rattle.std.proofs.Common.{ℤ, ◌≤◌, unsigned_abs, ⊎_elim, arith, subst, FitsSigned}
use Rattle.std.specs.Int.{w64, w128}
use Rattle.std.proofs.lemmas.Int.{ints, to_z-of_z, fits_signed_from_abs}
use Rattle.delay_units.specs.SignedAmounts.{IsSignedAmountOf}
use Rattle.nldm_lookup.specs.Axes.{most}
use Rattle.liberty_tables.specs.Kept.{unread_piece, no_memory}
use Rattle.liberty_tables.proofs.ReadingLemmas.{unread_alone, kept_below, kept_above, kept_within, amount_few}
use Rattle.liberty_tables.proofs.number_lists.Readings.read_number.Goals as goal

wide : (v : ℤ) → unsigned_abs v ≤ most → FitsSigned w128 v
wide v within = fits_signed_from_abs w128 v (omega (arith, ints, within))

narrow : (v : ℤ) → unsigned_abs v ≤ most → FitsSigned w64 v
narrow v within = fits_signed_from_abs w64 v (omega (arith, ints, within))

pub returns-in-Unread-clause-fault : goal.returns-in-Unread-clause-fault
returns-in-Unread-clause-fault c = unread_piece (unread_alone c.args.unit.now c.args.piece.now c.in-Unread.ensures.amount)

pub returns-in-Below-clause-kept : goal.returns-in-Below-clause-kept
returns-in-Below-clause-kept c = λ pieces kept.
    let is = c.read_signed_amount.ensures.amount in
    ⊎_elim
    (λ e. kept_below c.args.unit.now c.args.piece.now pieces c.args.self.now.within c.args.self.now.values.items (subst (IsSignedAmountOf c.args.unit.now most c.args.piece.now) e is) kept)
    (λ e. kept_above c.args.unit.now c.args.piece.now pieces c.args.self.now.within c.args.self.now.values.items (subst (IsSignedAmountOf c.args.unit.now most c.args.piece.now) e is) kept)
    c.in-Below.is

pub returns-in-Ok-clause-kept : goal.returns-in-Ok-clause-kept
returns-in-Ok-clause-kept c = λ pieces kept.
    let few = amount_few c.args.unit.now c.args.piece.now c.in-Within.value c.in-Within.ensures.amount in
    let in_128 : FitsSigned w128 c.in-Within.value = wide c.in-Within.value few in
    let in_64 : FitsSigned w64 c.in-Within.value = narrow c.in-Within.value few in
    rw c.in-Ok.ensures.items (simp to_z-of_z (kept_within c.args.unit.now c.args.piece.now c.in-Within.value pieces c.args.self.now.within c.args.self.now.values.items c.in-Within.ensures.amount kept))

pub returns-in-Err-clause-fault : goal.returns-in-Err-clause-fault
returns-in-Err-clause-fault c = no_memory
