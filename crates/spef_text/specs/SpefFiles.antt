-- What the bytes of a SPEF file (IEEE 1481) say, and the token at which bytes are none.
use Rattle.std.specs.Prelude.{◌≡◌, ℕ, ◌-◌, ◌^◌, ◌<◌, Bool, true, false, List, length, slice_get, Option, Some, ⊤}
use Rattle.token_fronts.specs.Tokens.{numbered}
use Rattle.token_fronts.specs.Reading.{Says, Leaves}
use Rattle.spef_text.specs.Tokens.{AreTokens, IsToken}
use Rattle.spef_text.specs.Classes.{word_of}
use Rattle.spef_text.specs.Entries.{Reading}
use Rattle.spef_text.specs.Grammar.{IsSpef}
use Rattle.spef_text.specs.declared.words.Word.{Word}
use Rattle.spef_text.specs.declared.words.Word.TheVariants.{Refused, Induc}
use Rattle.spef_text.specs.declared.parsing.SpefEnd.{SpefEnd}
use Rattle.spef_text.specs.declared.parsing.SpefEnd.TheVariants.{Syntax, Form, OutOfMemory}

-- the bytes say this
abbrev pub SaysSpef : List ℕ → Reading → Type 0
SaysSpef = Says AreTokens IsToken IsSpef

-- the bytes say nothing, and leave the grammar with the token of this number
abbrev pub LeavesSpef : List ℕ → ℕ → Type 0
LeavesSpef = Leaves AreTokens IsToken IsSpef

-- a file that has been read: the texts of its tokens, and what they say
pub record SpefText : Type 0 where
  pub texts : List (List ℕ)
  pub reading : Reading

-- what the file says is what its tokens say by the grammar
abbrev pub IsFormed : SpefText → Type 0
IsFormed file = IsSpef (numbered 1 file.texts) file.reading

-- what is kept of a file: it says what its tokens say, and they are fewer than 2^30
pub record IsKept (file : SpefText) : Type 0 where
  pub formed : IsFormed file
  pub few : length file.texts < 2 ^ 30

-- the file is these bytes' tokens, and what they say
pub record Reads (bytes : List ℕ) (file : SpefText) : Type 0 where
  pub parted : AreTokens bytes file.texts
  pub formed : IsFormed file

-- a word that is refused by name
abbrev pub is_refused_word : Option Word → Bool
is_refused_word (Some Refused) = true
is_refused_word (Some Induc) = true
is_refused_word _ = false

abbrev pub is_refused : List ℕ → Bool
is_refused text = is_refused_word (word_of text)

-- a refusal's token is the one with which the bytes leave the grammar
abbrev pub IsDead : List ℕ → SpefEnd → Type 0
IsDead bytes (Syntax token) = LeavesSpef bytes token
IsDead bytes (Form word token) = LeavesSpef bytes token
IsDead bytes OutOfMemory = ⊤

-- the word of a refusal is its token's text, a refused word; where there is none, that token is no refused word
abbrev pub IsRefusalAt : List (List ℕ) → ℕ → SpefEnd → Type 0
IsRefusalAt texts number (Syntax token) = (token ≡ number)
    × ((text : List ℕ) → slice_get texts (number - 1) ≡ Some text → is_refused text ≡ false)
IsRefusalAt texts number (Form word token) = (token ≡ number) × (slice_get texts (number - 1) ≡ Some word) × (is_refused word ≡ true)
IsRefusalAt texts number OutOfMemory = ⊤

-- the refusal of a token of this number and text
abbrev pub IsRefusalOf : List ℕ → ℕ → SpefEnd → Type 0
IsRefusalOf text number (Syntax token) = (token ≡ number) × (is_refused text ≡ false)
IsRefusalOf text number (Form word token) = (token ≡ number) × (word ≡ text) × (is_refused word ≡ true)
IsRefusalOf text number OutOfMemory = ⊤

abbrev pub HasForm : List ℕ → SpefEnd → Type 0
HasForm bytes (Syntax token) = (texts : List (List ℕ)) → AreTokens bytes texts → IsRefusalAt texts token (Syntax token)
HasForm bytes (Form word token) = (texts : List (List ℕ)) → AreTokens bytes texts → IsRefusalAt texts token (Form word token)
HasForm bytes OutOfMemory = ⊤
