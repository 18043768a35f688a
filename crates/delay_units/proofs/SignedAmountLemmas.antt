-- What a text reads as up to a bound in size, and that it reads as one.
use Rattle.std.proofs.Common.{◌≡◌, ℕ, zero, suc, ◌<◌, ◌≤◌, List, ℤ, pos, negsuc, ◌≤ℤ◌, ◌<ℤ◌, neg_ℤ, unsigned_abs, sym, ap, refl, arith, subst}
use Rattle.std.proofs.lemmas.Int.{ints}
use Rattle.delay_units.specs.Literal.{IsNumber}
use Rattle.delay_units.specs.Reading.{IsReading, ReadsAs}
use Rattle.delay_units.specs.SignedAmounts.{IsSignedAmountOf, unread, below, within, past}
use Rattle.delay_units.specs.declared.signed_amounts.SignedAmount.{SignedAmount}
use Rattle.delay_units.specs.declared.signed_amounts.SignedAmount.TheVariants.{Unread, Below, Within, Past}
use Rattle.delay_units.specs.declared.numbers.Decimal.{Decimal}
use Rattle.delay_units.specs.declared.numbers.Unit.{Unit}
use Rattle.delay_units.proofs.ReadingLemmas.{reads_as, one_text_reading}
use Rattle.delay_units.proofs.SignLemmas.{reads_low, reads_high}

pub low_is_large : (v : ℤ) (most : ℕ) → v <ℤ neg_ℤ (pos most) → most < unsigned_abs v
low_is_large (pos k) most low = absurd (omega (arith, ints, low))
low_is_large (negsuc k) most low = omega (arith, ints, low)

pub high_is_large : (v : ℤ) (most : ℕ) → pos most <ℤ v → most < unsigned_abs v
high_is_large (pos k) most far = omega (arith, ints, far)
high_is_large (negsuc k) most far = absurd (omega (arith, ints, far))

-- a reading is not within the bound and past it
not_both : (unit : Unit) (most : ℕ) (text : List ℕ) (v w : ℤ) → ReadsAs unit text v → ReadsAs unit text w → most < unsigned_abs v → unsigned_abs w ≤ most → ⊥
not_both unit most text v w one other far few =
    let same : unsigned_abs v ≡ unsigned_abs w = ap unsigned_abs (one_text_reading unit text v w one other) in
    omega (arith, same, far, few)

not_opposite : (unit : Unit) (most : ℕ) (text : List ℕ) (v w : ℤ) → ReadsAs unit text v → ReadsAs unit text w → v <ℤ neg_ℤ (pos most) → pos most <ℤ w → ⊥
not_opposite unit most text v w one other low far =
    let same = one_text_reading unit text v w one other in
    omega (arith, ints, same, low, far)

-- a text reads as one amount
pub one_signed_amount : (unit : Unit) (most : ℕ) (text : List ℕ) (one other : SignedAmount) → IsSignedAmountOf unit most text one
    → IsSignedAmountOf unit most text other → one ≡ other
one_signed_amount unit most text Unread Unread one other = refl
one_signed_amount unit most text Unread Below (unread none) (below reads low) = absurd (none reads.number reads.reads)
one_signed_amount unit most text Unread (Within v) (unread none) (within reads few) = absurd (none reads.number reads.reads)
one_signed_amount unit most text Unread Past (unread none) (past reads far) = absurd (none reads.number reads.reads)
one_signed_amount unit most text Below Unread (below reads low) (unread none) = absurd (none reads.number reads.reads)
one_signed_amount unit most text Below Below one other = refl
one_signed_amount unit most text Below (Within w) (below {v} reads low) (within others few) = absurd (not_both unit most text v w reads others (low_is_large v most low) few)
one_signed_amount unit most text Below Past (below {v} reads low) (past {v = w} others far) = absurd (not_opposite unit most text v w reads others low far)
one_signed_amount unit most text (Within v) Unread (within reads few) (unread none) = absurd (none reads.number reads.reads)
one_signed_amount unit most text (Within w) Below (within reads few) (below {v} others low) = absurd (not_both unit most text v w others reads (low_is_large v most low) few)
one_signed_amount unit most text (Within v) (Within w) (within reads few) (within others few') = ap Within (one_text_reading unit text v w reads others)
one_signed_amount unit most text (Within w) Past (within reads few) (past {v} others far) = absurd (not_both unit most text v w others reads (high_is_large v most far) few)
one_signed_amount unit most text Past Unread (past reads far) (unread none) = absurd (none reads.number reads.reads)
one_signed_amount unit most text Past Below (past {v = w} reads far) (below {v} others low) = absurd (not_opposite unit most text v w others reads low far)
one_signed_amount unit most text Past (Within w) (past {v} reads far) (within others few) = absurd (not_both unit most text v w reads others (high_is_large v most far) few)
one_signed_amount unit most text Past Past one other = refl

-- ---- the amount of a reading

pub signed_unread : (unit : Unit) (most : ℕ) (text : List ℕ) → ((number : Decimal) → IsNumber text number → ⊥) → IsSignedAmountOf unit most text Unread
signed_unread unit most text none = unread none

pub signed_within : (unit : Unit) (most : ℕ) (text : List ℕ) (v : ℤ) → ReadsAs unit text v → unsigned_abs v ≤ most → IsSignedAmountOf unit most text (Within v)
signed_within unit most text v reads few = within reads few

pub signed_past : (unit : Unit) (most : ℕ) (text : List ℕ) (grains : ℕ) → ReadsAs unit text (pos grains) → most < grains → IsSignedAmountOf unit most text Past
signed_past unit most text grains reads far = past reads (omega (arith, ints, far))

-- a reading past the bound in size, of a number below 0 and of another
pub signed_past_in_size : (unit : Unit) (most : ℕ) (text : List ℕ) (number : Decimal) (amount : SignedAmount) → IsNumber text number
    → (v : ℤ) × IsReading number unit v × (pos most <ℤ pos (unsigned_abs v))
    → (number.digits <ℤ pos 0 → amount ≡ Below) → (pos 0 ≤ℤ number.digits → amount ≡ Past) → IsSignedAmountOf unit most text amount
signed_past_in_size unit most text number amount reads (v, r, far) low high = of_sign number.digits refl
  where
    under : (v : ℤ) → v ≤ℤ pos 0 → pos most <ℤ pos (unsigned_abs v) → v <ℤ neg_ℤ (pos most)
    under (pos zero) l far = absurd (omega (arith, ints, far))
    under (pos (suc k)) l far = absurd (omega (arith, ints, l))
    under (negsuc k) l far = omega (arith, ints, far)

    over : (v : ℤ) → pos 0 ≤ℤ v → pos most <ℤ pos (unsigned_abs v) → pos most <ℤ v
    over (pos k) h far = omega (arith, ints, far)
    over (negsuc k) h far = absurd (omega (arith, ints, h))

    of_sign : (z : ℤ) → z ≡ number.digits → IsSignedAmountOf unit most text amount
    of_sign (pos a) e =
        let h : pos 0 ≤ℤ number.digits = omega (arith, ints, e) in
        let w = reads_high number unit v h r in
        subst (λ (x : SignedAmount). IsSignedAmountOf unit most text x) (sym (high h)) (past (reads_as unit text number v reads r) (over v w far))
    of_sign (negsuc a) e =
        let h : number.digits <ℤ pos 0 = omega (arith, ints, e) in
        let w = reads_low number unit v h r in
        subst (λ (x : SignedAmount). IsSignedAmountOf unit most text x) (sym (low h)) (below (reads_as unit text number v reads r) (under v w far))
