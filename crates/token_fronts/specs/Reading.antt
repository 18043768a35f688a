-- What bytes say: they are parted into tokens, and the tokens are a text of the grammar.
use Rattle.std.specs.Prelude.{ℕ, List}
use Rattle.token_fronts.specs.Tokens.{Token, numbered}
use Rattle.token_fronts.specs.DeadToken.{IsDeadToken}

module _ {T V : Type 0} (AreTokens : List ℕ → List T → Type 0) (IsToken : T → Type 0) (grammar : List (Token T) → V → Type 0) where
  -- the bytes say the value
  pub record Says (bytes : List ℕ) (value : V) : Type 0 where
    pub texts : List T
    pub parted : AreTokens bytes texts
    pub formed : grammar (numbered 1 texts) value

  -- the bytes say nothing, and leave the grammar with the token of this number
  pub record Leaves (bytes : List ℕ) (number : ℕ) : Type 0 where
    pub texts : List T
    pub parted : AreTokens bytes texts
    pub dead : IsDeadToken IsToken grammar texts number
    pub nothing : (value : V) → Says bytes value → ⊥
