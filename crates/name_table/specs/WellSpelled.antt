-- Names that are spelled as SDF wants them (IEEE 1497-2001): nonempty parts that are joined by `/`.
use Rattle.std.specs.Prelude.{◌≡◌, ℕ, true, false, List, [], ◌∷◌, ◌++◌}
use Rattle.std.specs.Char.{is_ascii_digit}
use Rattle.std.specs.List.{list_all}
use Rattle.edge_io.specs.Bytes.{slash, left_bracket, backslash, right_bracket}
use Rattle.name_table.specs.SdfNames.{is_plain}

-- a letter, a digit, `_`, or a backslash with a byte that is none of them
pub data IsLetter : List ℕ → Type 0 where
  plain : {byte : ℕ} → is_plain byte ≡ true → IsLetter (byte ∷ [])
  taken : {byte : ℕ} → is_plain byte ≡ false → IsLetter (backslash ∷ byte ∷ [])

-- a letter alone or with a bit behind it
pub data IsPiece : List ℕ → Type 0 where
  alone : {letter : List ℕ} → IsLetter letter → IsPiece letter
  with_bit : {letter : List ℕ} (first : ℕ) (digits : List ℕ)
      → IsLetter letter
      → list_all is_ascii_digit (first ∷ digits) ≡ true
      → IsPiece (letter ++ left_bracket ∷ first ∷ digits ++ right_bracket ∷ [])

-- one piece or more
pub data IsPart : List ℕ → Type 0 where
  piece : {last : List ℕ} → IsPiece last → IsPart last
  pieces : {first rest : List ℕ} → IsPiece first → IsPart rest → IsPart (first ++ rest)

-- one part or more, joined by `/`
pub data IsWellSpelled : List ℕ → Type 0 where
  one_part : {part : List ℕ} → IsPart part → IsWellSpelled part
  parts : {part rest : List ℕ} → IsPart part → IsWellSpelled rest → IsWellSpelled (part ++ slash ∷ rest)
