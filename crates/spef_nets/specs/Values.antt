-- A value of a SPEF file (IEEE 1481): one number, or the least, the typical and the greatest of three with colons between them.
use Rattle.std.specs.Prelude.{ℕ, ℤ, pos, ◌+◌, ◌≤◌, ◌<ℤ◌, List, take, drop, position, Option, Some, None, Result, Ok, Err, IfOk, IfErr, Bool, true, false}
use Rattle.corner_set.specs.declared.pick.Pick.{Pick}
use Rattle.corner_set.specs.declared.pick.Pick.TheVariants.{Min, Typ, Max}
use Rattle.delay_units.specs.Literal.{IsNumber}
use Rattle.delay_units.specs.Reading.{ReadsAs}
use Rattle.delay_units.specs.declared.numbers.Decimal.{Decimal}
use Rattle.delay_units.specs.declared.numbers.Unit.{Unit}
use Rattle.spef_text.specs.Classes.{is_colon}
use Rattle.spef_nets.specs.declared.amounts.Grains.{Grains}
use Rattle.spef_nets.specs.declared.amounts.AmountFault.{AmountFault}
use Rattle.spef_nets.specs.declared.amounts.AmountFault.TheVariants.{BadNumber, ValueTooLarge}

-- the three members of a value
pub record Triple : Type 0 where
  pub min : List ℕ
  pub typ : List ℕ
  pub max : List ℕ

-- what stands behind the first colon is parted at the next one
abbrev pub triple_behind : List ℕ → List ℕ → Option ℕ → Triple
triple_behind min rest None = record { min = min; typ = rest; max = rest }
triple_behind min rest (Some colon) = record { min = min; typ = take colon rest; max = drop (colon + 1) rest }

-- one number stands for all three
abbrev pub single : List ℕ → Triple
single text = record { min = text; typ = text; max = text }

abbrev pub triple_at : List ℕ → Option ℕ → Triple
triple_at text None = single text
triple_at text (Some colon) = triple_behind (take colon text) (drop (colon + 1) text) (position is_colon (drop (colon + 1) text))

abbrev pub triple_of : List ℕ → Triple
triple_of text = triple_at text (position is_colon text)

-- the member that counts
abbrev pub picked : Pick → Triple → List ℕ
picked Min triple = triple.min
picked Typ triple = triple.typ
picked Max triple = triple.max

-- a member that is good: it has so many grains, and no more than are taken
pub record IsAmount (unit : Unit) (most : ℕ) (text : List ℕ) (grains : ℕ) : Type 0 where
  pub reads : ReadsAs unit text (pos grains)
  pub within : grains ≤ most

-- a member that is bad: it is not read, for its digits or its exponent, or it reads below 0
pub data IsBad (unit : Unit) (text : List ℕ) : Type 0 where
  unread : ((number : Decimal) → IsNumber text number → ⊥) → IsBad unit text
  below : (v : ℤ) → ReadsAs unit text v → v <ℤ pos 0 → IsBad unit text

-- a member that is past the bound
pub record IsLarge (unit : Unit) (most : ℕ) (text : List ℕ) : Type 0 where
  pub grains : ℤ
  pub reads : ReadsAs unit text grains
  pub past : pos most <ℤ grains

abbrev pub IsAmountFault : Unit → ℕ → List ℕ → AmountFault → Type 0
IsAmountFault unit most text BadNumber = IsBad unit text
IsAmountFault unit most text ValueTooLarge = IsLarge unit most text

-- what a member is read as
abbrev pub IsReadAs : Unit → ℕ → List ℕ → Result ℕ AmountFault → Type 0
IsReadAs unit most text r = IfOk r (IsAmount unit most text) × IfErr r (IsAmountFault unit most text)

-- an answer that a member is bad
abbrev pub is_bad : Result ℕ AmountFault → Bool
is_bad (Err BadNumber) = true
is_bad (Err ValueTooLarge) = false
is_bad (Ok grains) = false

-- a member of these three is bad, or past the bound
abbrev pub HasBad : Unit → Triple → Type 0
HasBad unit triple = (pick : Pick) × IsBad unit (picked pick triple)

abbrev pub HasLarge : Unit → ℕ → Triple → Type 0
HasLarge unit most triple = (pick : Pick) × IsLarge unit most (picked pick triple)

-- a bad member anywhere comes before one past the bound
abbrev pub IsTripleFault : Unit → ℕ → Triple → AmountFault → Type 0
IsTripleFault unit most triple BadNumber = HasBad unit triple
IsTripleFault unit most triple ValueTooLarge = (HasBad unit triple → ⊥) × HasLarge unit most triple

abbrev pub IsValueFault : Unit → ℕ → List ℕ → AmountFault → Type 0
IsValueFault unit most text fault = IsTripleFault unit most (triple_of text) fault

-- the readings of three good members
pub record AreGrains (unit : Unit) (most : ℕ) (triple : Triple) (grains : Grains) : Type 0 where
  pub min : IsAmount unit most triple.min grains.min
  pub typ : IsAmount unit most triple.typ grains.typ
  pub max : IsAmount unit most triple.max grains.max

-- the reading that counts
abbrev pub grains_at : Pick → Grains → ℕ
grains_at Min grains = grains.min
grains_at Typ grains = grains.typ
grains_at Max grains = grains.max

-- what three members are read as
abbrev pub IsAnswerOf : Unit → ℕ → Triple → Result Grains AmountFault → Type 0
IsAnswerOf unit most triple r = IfOk r (AreGrains unit most triple) × IfErr r (IsTripleFault unit most triple)
