-- What the head of a SPEF file (IEEE 1481) says: the design's name and the units. No index stands twice in its name map.
use Rattle.std.specs.Prelude.{◌≡◌, ◌≢◌, ℕ, ◌+◌, ◌-◌, ◌<◌, ◌==◌, ◌⊎◌, pos, if◌then◌else◌, List, [], ◌∷◌, length, take, map, slice_get, slice_index_or, AllPairs, Contains, Option, Some, None, ⊤}
use Rattle.delay_units.specs.declared.numbers.Unit.{Unit}
use Rattle.name_table.specs.Names.{AreDistinct}
use Rattle.spef_text.specs.Classes.{index_digits}
use Rattle.spef_text.specs.SpefFiles.{SpefText}
use Rattle.spef_text.specs.Units.{IsUnit, IsNoUnit}
use Rattle.spef_text.specs.declared.entries.MapEntry.{MapEntry}
use Rattle.spef_text.specs.declared.units.Quantity.{Quantity}
use Rattle.spef_text.specs.declared.units.Quantity.TheVariants.{Capacitance, Resistance}
use Rattle.spef_text.specs.declared.head_ends.HeadEnd.{HeadEnd}
use Rattle.spef_text.specs.declared.head_ends.HeadEnd.TheVariants.{BadUnit, RepeatedIndex, OutOfMemory}

-- a head that has been read
pub record HeadText : Type 0 where
  pub design : List ℕ
  pub cap_unit : Unit
  pub res_unit : Unit

-- a file and its head
pub record HeadedFile : Type 0 where
  pub file : SpefText
  pub head : HeadText

-- the text of a token, which counts from 1; no text is that of a number of none
abbrev pub text_of : SpefText → ℕ → List ℕ
text_of file number = if number == 0 then [] else slice_index_or file.texts (number - 1) []

-- a text without the quotes round it
abbrev pub unquoted : List ℕ → List ℕ
unquoted [] = []
unquoted (first ∷ rest) = if first == 34 then take (length rest - 1) rest else first ∷ rest

-- the design's name, or nothing
abbrev pub design_at : SpefText → Option ℕ → List ℕ
design_at file None = []
design_at file (Some name) = unquoted (text_of file name)

-- The unit of an item, by its number's token; the word follows it. A file with no net needs no item: its unit is 1 fF or 1 ohm.
abbrev pub IsUnitAt : Quantity → SpefText → Option ℕ → Unit → Type 0
IsUnitAt quantity file None unit = (file.reading.sections ≡ []) × (unit.mantissa ≡ 1) × (unit.exponent ≡ pos 6)
IsUnitAt quantity file (Some number) unit = IsUnit quantity (text_of file number) (text_of file (number + 1)) unit

-- there is no unit, and this token tells why: the number, or 0 where there is no item
abbrev pub IsBadUnit : Quantity → SpefText → Option ℕ → ℕ → Type 0
IsBadUnit quantity file None token = (file.reading.sections ≢ []) × (token ≡ 0)
IsBadUnit quantity file (Some number) token = IsNoUnit quantity (text_of file number) (text_of file (number + 1)) × (token ≡ number)

-- the units that count
abbrev pub IsCapUnit : SpefText → Unit → Type 0
IsCapUnit file unit = IsUnitAt Capacitance file file.reading.head.cap_unit unit

abbrev pub IsResUnit : SpefText → Unit → Type 0
IsResUnit file unit = IsUnitAt Resistance file file.reading.head.res_unit unit

abbrev pub HasCapUnit : SpefText → Type 0
HasCapUnit file = (unit : Unit) × IsCapUnit file unit

abbrev pub HasResUnit : SpefText → Type 0
HasResUnit file = (unit : Unit) × IsResUnit file unit

-- the digits of an entry's index, without leading zeros
abbrev pub digits_of : SpefText → MapEntry → List ℕ
digits_of file entry = index_digits (text_of file entry.index)

abbrev pub indices_of : SpefText → List MapEntry → List (List ℕ)
indices_of file entries = map (digits_of file) entries

-- what the head of the file says
pub record IsHeadOf (file : SpefText) (head : HeadText) : Type 0 where
  pub design : head.design ≡ design_at file file.reading.head.design
  pub cap_unit : IsCapUnit file head.cap_unit
  pub res_unit : IsResUnit file head.res_unit
  -- no index stands twice in the name map
  pub distinct : AreDistinct (indices_of file file.reading.head.map)

-- the first entry of the map whose index stands before it already, by its token
pub record IsRepeatedAt (file : SpefText) (token : ℕ) : Type 0 where
  pub place : ℕ
  pub entry : MapEntry
  pub stands : slice_get file.reading.head.map place ≡ Some entry
  pub again : Contains (indices_of file (take place file.reading.head.map)) (digits_of file entry)
  pub no_earlier : AreDistinct (indices_of file (take place file.reading.head.map))
  pub token_is : token ≡ entry.index

-- an index stands twice, or there was no memory
abbrev pub IsRepeat : SpefText → HeadEnd → Type 0
IsRepeat file (BadUnit token) = ⊥
IsRepeat file (RepeatedIndex token) = IsRepeatedAt file token
IsRepeat file OutOfMemory = ⊤

-- Why a file has no head: its capacitance's unit first, then its resistance's, then an index that stands twice.
abbrev pub IsHeadEnd : SpefText → HeadEnd → Type 0
IsHeadEnd file (BadUnit token) =
    IsBadUnit Capacitance file file.reading.head.cap_unit token
    ⊎ (HasCapUnit file × IsBadUnit Resistance file file.reading.head.res_unit token)
IsHeadEnd file (RepeatedIndex token) = HasCapUnit file × HasResUnit file × IsRepeatedAt file token
IsHeadEnd file OutOfMemory = ⊤

-- the entries stand in the order of their indices' tokens
abbrev pub IsInOrder : List MapEntry → Type 0
IsInOrder entries = AllPairs (λ one other. one.index < other.index) entries
