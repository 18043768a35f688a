-- What is said of the reading of a text.
use Rattle.std.specs.Prelude.{◌≡◌, ℕ, ◌+◌, List, [], ◌∷◌, ◌++◌, length, Option, Some, None, Result, Ok, Err, ⊤}
use Rattle.token_texts.specs.Cuts.{Part, token, AreParts, lexemes, byte_count, place_of}
use Rattle.token_texts.specs.declared.cuts.Cut.{Cut}
use Rattle.token_texts.specs.declared.reading.ReadEnd.{ReadEnd}
use Rattle.token_texts.specs.declared.reading.ReadEnd.TheVariants.{Refused, OutOfMemory}

-- behind these parts a token has this number and begins at this place
pub record IsNext {K : Type 0} (before : List (Part K)) (number start : ℕ) : Type 0 where
  pub count : number ≡ length (lexemes before) + 1
  pub place : start ≡ byte_count before

-- behind the parts before it a token is taken, or refused whatever comes behind it
abbrev pub Follows : {K S C : Type 0} → (List (Part K) → S → Type 0) → (List (Part K) → ℕ → C → Type 0) → List (Part K) → ℕ → K → List ℕ → S
    → Option C → Type 0
Follows {K} Leads Stops before number kind bytes after None = Leads (before ++ token (record { kind = kind; bytes = bytes }) ∷ []) after
Follows {K} Leads Stops before number kind bytes after (Some cause) = (more : List (Part K))
    → Stops (before ++ token (record { kind = kind; bytes = bytes }) ∷ more) number cause

abbrev pub OnTaken : {C E : Type 0} → Result (Option C) E → Type 0 → Type 0
OnTaken (Ok None) fact = fact
OnTaken (Ok (Some cause)) fact = ⊤
OnTaken (Err end) fact = ⊤

abbrev pub Finishes : {K V C : Type 0} → (List (Part K) → V → Type 0) → (List (Part K) → ℕ → C → Type 0) → List (Part K)
    → Result V C → Type 0
Finishes Makes Stops before (Ok value) = Makes before value
Finishes Makes Stops before (Err cause) = Stops before (length (lexemes before) + 1) cause

-- the bytes have parts that say the value, or that are refused at the token of this number, which begins at this place
pub record MakesParts {K V : Type 0} (cut_at : ℕ → List ℕ → Cut K) (Makes : List (Part K) → V → Type 0) (bytes : List ℕ)
    (value : V) : Type 0 where
  pub parts : List (Part K)
  pub parted : AreParts cut_at bytes parts
  pub made : Makes parts value

pub record StopsParts {K C : Type 0} (cut_at : ℕ → List ℕ → Cut K) (Stops : List (Part K) → ℕ → C → Type 0) (bytes : List ℕ)
    (number start : ℕ) (cause : C) : Type 0 where
  pub parts : List (Part K)
  pub parted : AreParts cut_at bytes parts
  pub place : start ≡ place_of parts number
  pub stops : Stops parts number cause

abbrev pub IfRefused : {A C : Type 0} → Result A (ReadEnd C) → (ℕ → ℕ → C → Type 0) → Type 0
IfRefused (Ok answer) holds = ⊤
IfRefused (Err (Refused number start cause)) holds = holds number start cause
IfRefused (Err OutOfMemory) holds = ⊤
