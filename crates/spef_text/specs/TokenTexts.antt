-- What the texts of a file's tokens are.
use Rattle.std.specs.Prelude.{◌≡◌, ◌⊎◌, ℕ, true, List, [], ◌∷◌, ⊤}
use Rattle.spef_text.specs.Tokens.{IsToken, is_broken}

-- each text stands as a token by itself, and is the whole of it; only the last may be broken instead
abbrev pub StandAlone : List (List ℕ) → Type 0
StandAlone [] = ⊤
StandAlone (text ∷ []) = IsToken text ⊎ (is_broken text ≡ true)
StandAlone (text ∷ next ∷ rest) = IsToken text × StandAlone (next ∷ rest)
