-- The literal in front of a text: the longest front of the text that is one.
use Rattle.std.specs.Prelude.{◌≡◌, ℕ, ◌≤◌, List, ◌++◌, length}
use Rattle.delay_units.specs.Literal.{IsLiteral}

-- the text is the front and the rest; the front is a literal, and no longer front of the text is one
pub record IsLiteralFront (text front rest : List ℕ) : Type 0 where
  pub split : text ≡ front ++ rest
  pub literal : IsLiteral front
  pub longest : (other left : List ℕ) → text ≡ other ++ left → IsLiteral other → length other ≤ length front

-- no front of the text is a literal
abbrev pub HasNoLiteralFront : List ℕ → Type 0
HasNoLiteralFront text = (front rest : List ℕ) → text ≡ front ++ rest → IsLiteral front → ⊥
