-- What a text reads as, as a size: in a unit, from 0 to a bound.
use Rattle.std.specs.Prelude.{ℕ, ◌≤◌, ℤ, pos, ◌<ℤ◌, List}
use Rattle.delay_units.specs.Literal.{IsNumber}
use Rattle.delay_units.specs.Reading.{ReadsAs}
use Rattle.delay_units.specs.declared.amounts.Amount.{Amount}
use Rattle.delay_units.specs.declared.amounts.Amount.TheVariants.{Unread, Below, Within, Past}
use Rattle.delay_units.specs.declared.numbers.Decimal.{Decimal}
use Rattle.delay_units.specs.declared.numbers.Unit.{Unit}

-- The text is no number that is read, or its rounded reading is below 0, or from 0 to the bound, or past it.
pub data IsAmountOf (unit : Unit) (most : ℕ) (text : List ℕ) : Amount → Type 0 where
  unread : ((number : Decimal) → ¬ IsNumber text number) → IsAmountOf unit most text Unread
  below : {v : ℤ} → ReadsAs unit text v → v <ℤ pos 0 → IsAmountOf unit most text Below
  within : {grains : ℕ} → ReadsAs unit text (pos grains) → grains ≤ most → IsAmountOf unit most text (Within grains)
  past : {v : ℤ} → ReadsAs unit text v → pos most <ℤ v → IsAmountOf unit most text Past
