-- Lists of numbers (Liberty, index_1, index_2 and values): the pieces of all texts, parted by commas and blanks, each read in a unit.
use Rattle.std.specs.Prelude.{ℕ, ◌==◌, Bool, ◌||◌, ℤ, List, Contains}
use Rattle.std.specs.List.{flat_map, AllZip}
use Rattle.delay_units.specs.Literal.{IsNumber}
use Rattle.delay_units.specs.Reading.{ReadsAs}
use Rattle.delay_units.specs.declared.numbers.Decimal.{Decimal}
use Rattle.delay_units.specs.declared.numbers.Unit.{Unit}
use Rattle.token_texts.specs.Blanks.{is_blank}
use Rattle.token_texts.specs.Pieces.{pieces_between}

-- a comma or a blank
abbrev pub is_parting : ℕ → Bool
is_parting byte = byte == 44 || is_blank byte

-- the pieces of all texts
abbrev pub pieces_of : List (List ℕ) → List (List ℕ)
pieces_of texts = flat_map (pieces_between is_parting) texts

-- the pieces are numbers, and these are their readings in the unit, rounded to whole grains, in order
abbrev pub AreReadings : Unit → List (List ℕ) → List ℤ → Type 0
AreReadings unit pieces values = AllZip (ReadsAs unit) pieces values

-- no literal, or one of too many digits or with too large an exponent
abbrev pub IsNoNumber : List ℕ → Type 0
IsNoNumber piece = (number : Decimal) → ¬ IsNumber piece number

-- some piece is no number
pub record HasNoNumber (pieces : List (List ℕ)) : Type 0 where
  pub piece : List ℕ
  pub among : Contains pieces piece
  pub unread : IsNoNumber piece
