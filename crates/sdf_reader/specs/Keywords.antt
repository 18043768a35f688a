-- The keywords of SDF (IEEE 1497-2001) that the grammar tells from others. Each may stand in any case of letters.
use Rattle.std.specs.Prelude.{ℕ, Bool, List, [], ◌∷◌, map, Option, Some, None, if◌then◌else◌, codes}
use Rattle.std.specs.Str.{bytes_eq}
use Rattle.std.specs.Char.{to_ascii_lowercase}
use Rattle.sdf_reader.specs.declared.words.Keyword.{Keyword}
use Rattle.sdf_reader.specs.declared.words.Keyword.TheVariants.{DelayFile, Design, Divider, Timescale, Cell, CellType, Instance, Delay, Absolute, IoPath, Interconnect, Retain}

abbrev pub keywords : List (List ℕ × Keyword)
keywords =
    (codes "IOPATH", IoPath)
    ∷ (codes "INTERCONNECT", Interconnect)
    ∷ (codes "CELL", Cell)
    ∷ (codes "CELLTYPE", CellType)
    ∷ (codes "INSTANCE", Instance)
    ∷ (codes "DELAY", Delay)
    ∷ (codes "ABSOLUTE", Absolute)
    ∷ (codes "RETAIN", Retain)
    ∷ (codes "DELAYFILE", DelayFile)
    ∷ (codes "DESIGN", Design)
    ∷ (codes "DIVIDER", Divider)
    ∷ (codes "TIMESCALE", Timescale)
    ∷ []

-- one word, in any case of letters
unfoldable pub same_word : List ℕ → List ℕ → Bool
same_word one other = bytes_eq (map to_ascii_lowercase one) (map to_ascii_lowercase other)

-- what stands in the table beside the word
abbrev pub lookup : List (List ℕ × Keyword) → List ℕ → Option Keyword
lookup [] word = None
lookup (keyword ∷ later) word = if same_word keyword.0 word then Some keyword.1 else lookup later word

-- the keyword that a word is, if any
unfoldable pub keyword_of : List ℕ → Option Keyword
keyword_of word = lookup keywords word
