-- Where a list of tokens leaves a grammar.
use Rattle.std.specs.Prelude.{ℕ, ◌+◌, ◌<◌, ◌≤◌, nat_le, MatchBool, List, ◌++◌, length, take}
use Rattle.std.specs.List.{AllByRecursion}
use Rattle.token_fronts.specs.Tokens.{Token, numbered}

module _ {T V : Type 0} (IsToken : T → Type 0) (grammar : List (Token T) → V → Type 0) where
  -- the tokens are a text of the grammar: it says something
  abbrev pub IsText : List T → Type 0
  IsText texts = (value : V) × grammar (numbered 1 texts) value

  -- the front begins a text of the grammar: some tokens can be appended so that the whole is one
  pub record Begins (front : List T) : Type 0 where
    pub more : List T
    pub tokens : AllByRecursion IsToken more
    pub text : IsText (front ++ more)

  -- the texts do not leave the grammar with the token of this number: the front up to it begins a text; the number one past the last token
  -- stands for the end of the file, where the whole must be a text
  abbrev pub StaysAt : List T → ℕ → Type 0
  StaysAt texts number = MatchBool (nat_le number (length texts)) (Begins (take number texts)) (IsText texts)

  -- the least number with which the texts leave the grammar
  pub record IsDeadToken (texts : List T) (number : ℕ) : Type 0 where
    pub dead : StaysAt texts number → ⊥
    pub least : (before : ℕ) → before < number → StaysAt texts before
    pub within : number ≤ length texts + 1
