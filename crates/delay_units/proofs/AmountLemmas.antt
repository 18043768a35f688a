-- What a text reads as, as a size, and that it reads as one.
use Rattle.std.proofs.Common.{◌≡◌, ℕ, ◌<◌, ◌≤◌, List, ℤ, pos, negsuc, ◌≤ℤ◌, ◌<ℤ◌, unsigned_abs, ap, refl, arith}
use Rattle.std.proofs.lemmas.Int.{ints}
use Rattle.delay_units.specs.Reading.{ReadsAs}
use Rattle.delay_units.specs.Amounts.{IsAmountOf, unread, below, within, past}
use Rattle.delay_units.specs.SignedAmounts.{IsSignedAmountOf, unread as unread_signed, below as below_signed, within as within_signed, past as past_signed}
use Rattle.delay_units.specs.declared.amounts.Amount.{Amount}
use Rattle.delay_units.specs.declared.amounts.Amount.TheVariants.{Unread, Below, Within, Past}
use Rattle.delay_units.specs.declared.signed_amounts.SignedAmount.TheVariants.{Unread as SignedUnread, Below as SignedBelow, Within as SignedWithin, Past as SignedPast}
use Rattle.delay_units.specs.declared.numbers.Unit.{Unit}
use Rattle.delay_units.proofs.ReadingLemmas.{one_text_reading}

-- a text reads as one amount
pub one_amount : (unit : Unit) (most : ℕ) (text : List ℕ) (one other : Amount) → IsAmountOf unit most text one → IsAmountOf unit most text other → one ≡ other
one_amount unit most text Unread Unread one other = refl
one_amount unit most text Unread Below (unread none) (below reads low) = absurd (none reads.number reads.reads)
one_amount unit most text Unread (Within k) (unread none) (within reads few) = absurd (none reads.number reads.reads)
one_amount unit most text Unread Past (unread none) (past reads far) = absurd (none reads.number reads.reads)
one_amount unit most text Below Unread (below reads low) (unread none) = absurd (none reads.number reads.reads)
one_amount unit most text Below Below one other = refl
one_amount unit most text Below (Within k) (below {v} reads low) (within others few) =
    let same = one_text_reading unit text v (pos k) reads others in absurd (omega (arith, ints, same, low))
one_amount unit most text Below Past (below {v} reads low) (past {v = w} others far) =
    let same = one_text_reading unit text v w reads others in absurd (omega (arith, ints, same, low, far))
one_amount unit most text (Within k) Unread (within reads few) (unread none) = absurd (none reads.number reads.reads)
one_amount unit most text (Within k) Below (within reads few) (below {v} others low) =
    let same = one_text_reading unit text (pos k) v reads others in absurd (omega (arith, ints, same, low))
one_amount unit most text (Within j) (Within k) (within reads few) (within others few') =
    let same = one_text_reading unit text (pos j) (pos k) reads others in let e : j ≡ k = cc in ap Within e
one_amount unit most text (Within k) Past (within reads few) (past {v} others far) =
    let same = one_text_reading unit text (pos k) v reads others in absurd (omega (arith, ints, same, few, far))
one_amount unit most text Past Unread (past reads far) (unread none) = absurd (none reads.number reads.reads)
one_amount unit most text Past Below (past {v} reads far) (below {v = w} others low) =
    let same = one_text_reading unit text v w reads others in absurd (omega (arith, ints, same, low, far))
one_amount unit most text Past (Within k) (past {v} reads far) (within others few) =
    let same = one_text_reading unit text v (pos k) reads others in absurd (omega (arith, ints, same, few, far))
one_amount unit most text Past Past one other = refl

-- ---- the amount of a reading

pub amount_within : (unit : Unit) (most : ℕ) (text : List ℕ) (grains : ℕ) → ReadsAs unit text (pos grains) → grains ≤ most → IsAmountOf unit most text (Within grains)
amount_within unit most text grains reads few = within reads few

pub amount_past : (unit : Unit) (most : ℕ) (text : List ℕ) (grains : ℕ) → ReadsAs unit text (pos grains) → most < grains → IsAmountOf unit most text Past
amount_past unit most text grains reads far = past reads (omega (arith, ints, far))

pub amount_below : (unit : Unit) (most : ℕ) (text : List ℕ) (v : ℤ) → ReadsAs unit text v → v <ℤ pos 0 → IsAmountOf unit most text Below
amount_below unit most text v reads low = below reads low

pub amount_from_zero : (unit : Unit) (most : ℕ) (text : List ℕ) (v : ℤ) → ReadsAs unit text v → pos 0 ≤ℤ v → unsigned_abs v ≤ most
    → IsAmountOf unit most text (Within (unsigned_abs v))
amount_from_zero unit most text (pos k) reads high few = within reads few
amount_from_zero unit most text (negsuc k) reads high few = absurd (omega (arith, ints, high))

-- ---- the amount of a reading with a sign

pub signed_is_unread : (unit : Unit) (most : ℕ) (text : List ℕ) → IsSignedAmountOf unit most text SignedUnread → IsAmountOf unit most text Unread
signed_is_unread unit most text (unread_signed none) = unread none

pub signed_is_below : (unit : Unit) (most : ℕ) (text : List ℕ) → IsSignedAmountOf unit most text SignedBelow → IsAmountOf unit most text Below
signed_is_below unit most text (below_signed {v} reads low) = below reads (omega (arith, ints, low))

pub signed_is_past : (unit : Unit) (most : ℕ) (text : List ℕ) → IsSignedAmountOf unit most text SignedPast → IsAmountOf unit most text Past
signed_is_past unit most text (past_signed reads far) = past reads far

pub signed_reads : (unit : Unit) (most : ℕ) (text : List ℕ) (v : ℤ) → IsSignedAmountOf unit most text (SignedWithin v) → ReadsAs unit text v
signed_reads unit most text v (within_signed reads few) = reads

pub signed_few : (unit : Unit) (most : ℕ) (text : List ℕ) (v : ℤ) → IsSignedAmountOf unit most text (SignedWithin v) → unsigned_abs v ≤ most
signed_few unit most text v (within_signed reads few) = few
