-- What a text reads as in a unit, with its sign, up to a bound in size.
use Rattle.std.specs.Prelude.{ℕ, ◌≤◌, ℤ, pos, ◌<ℤ◌, neg_ℤ, unsigned_abs, List, ⊤}
use Rattle.delay_units.specs.Literal.{IsNumber}
use Rattle.delay_units.specs.Reading.{ReadsAs}
use Rattle.delay_units.specs.declared.signed_amounts.SignedAmount.{SignedAmount}
use Rattle.delay_units.specs.declared.signed_amounts.SignedAmount.TheVariants.{Unread, Below, Within, Past}
use Rattle.delay_units.specs.declared.numbers.Decimal.{Decimal}
use Rattle.delay_units.specs.declared.numbers.Unit.{Unit}

-- The text is no number that is read, or its rounded reading is within the bound in size, or less, or more.
pub data IsSignedAmountOf (unit : Unit) (most : ℕ) (text : List ℕ) : SignedAmount → Type 0 where
  unread : ((number : Decimal) → ¬ IsNumber text number) → IsSignedAmountOf unit most text Unread
  below : {v : ℤ} → ReadsAs unit text v → v <ℤ neg_ℤ (pos most) → IsSignedAmountOf unit most text Below
  within : {v : ℤ} → ReadsAs unit text v → unsigned_abs v ≤ most → IsSignedAmountOf unit most text (Within v)
  past : {v : ℤ} → ReadsAs unit text v → pos most <ℤ v → IsSignedAmountOf unit most text Past

-- a reading within the bound has no more than its size
abbrev pub KeepsBound : ℕ → SignedAmount → Type 0
KeepsBound most Unread = ⊤
KeepsBound most Below = ⊤
KeepsBound most (Within v) = unsigned_abs v ≤ most
KeepsBound most Past = ⊤
