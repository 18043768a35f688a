-- The same over bytes, which are parted into tokens in one way.
use Rattle.std.specs.Prelude.{◌≡◌, ℕ, List, Result, Ok, Err}
use Rattle.std.proofs.Common.{subst}
use Rattle.token_fronts.specs.Tokens.{Token, numbered}
use Rattle.token_fronts.specs.DeadToken.{IsDeadToken}
use Rattle.token_fronts.specs.Reading.{Says, Leaves}
use Rattle.token_fronts.specs.Machine.{Stop, outcome}
use Rattle.token_fronts.specs.FrontLaw.{Fits, one_dead_token, dead_token}

module _ {T V S C : Type 0} (AreTokens : List ℕ → List T → Type 0) (IsToken : T → Type 0) (grammar : List (Token T) → V → Type 0)
    (next : S → Token T → Result S C) (finish : S → Result V C) (first : S)
    (fits : Fits IsToken grammar next finish first)
    (one_parting : (bytes : List ℕ) (one other : List T) → AreTokens bytes one → AreTokens bytes other → one ≡ other) where
  -- what the machine makes of the bytes' tokens, the bytes say
  pub says_made : (bytes : List ℕ) (texts : List T) (value : V) → AreTokens bytes texts → outcome next finish first 1 texts ≡ Ok value
      → Says AreTokens IsToken grammar bytes value
  says_made bytes texts value parted made = record { texts = texts; parted = parted; formed = fits.means texts value made }

  -- what the bytes say, the machine makes of their tokens
  pub makes_said : (bytes : List ℕ) (texts : List T) (value : V) → AreTokens bytes texts → Says AreTokens IsToken grammar bytes value
      → outcome next finish first 1 texts ≡ Ok value
  makes_said bytes texts value parted says =
      let same : says.texts ≡ texts = one_parting bytes says.texts texts says.parted parted in
      let formed : grammar (numbered 1 texts) value = subst (λ (other : List T). grammar (numbered 1 other) value) same says.formed in
      fits.takes texts value formed

  -- where it stops, the bytes leave the grammar
  pub leaves_where_stopped : (bytes : List ℕ) (texts : List T) (stop : Stop S C) → AreTokens bytes texts
      → outcome next finish first 1 texts ≡ Err stop → Leaves AreTokens IsToken grammar bytes stop.number
  leaves_where_stopped bytes texts stop parted e = record {
    texts = texts;
    parted = parted;
    dead = dead_token IsToken grammar next finish first fits texts stop e;
    nothing = λ value says. let made = makes_said bytes texts value parted says in cc;
  }

  -- bytes say one thing at most, and leave the grammar in one place at most
  pub one_reading : (bytes : List ℕ) (one other : V) → Says AreTokens IsToken grammar bytes one
      → Says AreTokens IsToken grammar bytes other → one ≡ other
  one_reading bytes one other says says' =
      let made = makes_said bytes says'.texts one says'.parted says in
      let made' = makes_said bytes says'.texts other says'.parted says' in
      cc

  pub one_leaving : (bytes : List ℕ) (one other : ℕ) → Leaves AreTokens IsToken grammar bytes one
      → Leaves AreTokens IsToken grammar bytes other → one ≡ other
  one_leaving bytes one other leaves leaves' =
      let same : leaves'.texts ≡ leaves.texts = one_parting bytes leaves'.texts leaves.texts leaves'.parted leaves.parted in
      one_dead_token IsToken grammar leaves.texts one other leaves.dead
      (subst (λ (texts : List T). IsDeadToken IsToken grammar texts other) same leaves'.dead)
