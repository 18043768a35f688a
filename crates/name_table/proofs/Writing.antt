-- The characters of a word, written one after another.
use Rattle.std.proofs.Common.{◌≡◌, ℕ, ◌⊎◌, inl, inr, Bool, true, false, not, ◌&&◌, List, [], ◌∷◌, ◌++◌, refl, ap}
use Rattle.std.specs.Prelude.{◌==◌}
use Rattle.std.specs.List.{list_all}
use Rattle.std.proofs.lemmas.Bool.Decides.{Decides-eqb}
use Rattle.name_table.specs.Characters.{Character, bare, escaped, characters, after_backslash, written, may_stand, word_of}
use Rattle.edge_io.specs.Bytes.{backslash}
use Rattle.name_table.proofs.Reading.{reading}

-- a backslash that was read before the word
abbrev pub lead : Bool → List ℕ
lead true = backslash ∷ []
lead false = []

-- the characters give the word back, but for a backslash at its end
abbrev pub IsBack : List Character → List ℕ → Type 0
IsBack name word = (word_of name ≡ word) ⊎ (word_of name ++ backslash ∷ [] ≡ word)

grown : (name : List Character) (word : List ℕ) (first : Character) → IsBack name word → IsBack (first ∷ name) (written first ++ word)
grown name word first (inl back) = inl (ap (λ text. written first ++ text) back)
grown name word (bare byte) (inr back) = inr (ap (λ text. byte ∷ text) back)
grown name word (escaped byte) (inr back) = inr (ap (λ text. backslash ∷ byte ∷ text) back)

reading_back : (within : Bool) (word : List ℕ) → IsBack (reading within word) (lead within ++ word)
reading_back true [] = inr refl
reading_back false [] = inl refl
reading_back true (byte ∷ rest) = grown (characters rest) rest (escaped byte) (reading_back false rest)
reading_back false (byte ∷ rest) = by (byte == backslash) refl (reading_back true rest) (reading_back false rest)
  where
    by : (slashed : Bool) → (byte == backslash) ≡ slashed → IsBack (after_backslash rest) (backslash ∷ rest) → IsBack (characters rest) rest
        → IsBack (elim slashed as (λ _. List Character) [ true ↦ after_backslash rest | false ↦ bare byte ∷ characters rest ]) (byte ∷ rest)
    by true is inside outside = rw ((Decides-eqb byte backslash).0 is) inside
    by false is inside outside = grown (characters rest) rest (bare byte) outside

pub written_back : (word : List ℕ) → (word_of (characters word) ≡ word) ⊎ (word_of (characters word) ++ backslash ∷ [] ≡ word)
written_back word = reading_back false word

-- characters that are written are read again
pub read_again : (name : List Character) → list_all may_stand name ≡ true → characters (word_of name) ≡ name
read_again [] stand = refl
read_again (escaped byte ∷ rest) stand = ap (λ name. escaped byte ∷ name) (read_again rest stand)
read_again (bare byte ∷ rest) stand = by (byte == backslash) (read_again rest) stand
  where
    by : (slashed : Bool) → (list_all may_stand rest ≡ true → characters (word_of rest) ≡ rest) → (not slashed && list_all may_stand rest) ≡ true
        → (elim slashed as (λ _. List Character) [ true ↦ after_backslash (word_of rest) | false ↦ bare byte ∷ characters (word_of rest) ]) ≡ bare byte ∷ rest
    by true again stand = cc
    by false again stand = ap (λ name. bare byte ∷ name) (again stand)
