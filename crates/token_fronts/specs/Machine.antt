-- A machine that takes one token at a time: it goes on from a state to another, or stops.
use Rattle.std.specs.Prelude.{ℕ, ◌+◌, List, [], ◌∷◌, Result, Ok, Err}
use Rattle.token_fronts.specs.Tokens.{Token}

-- where a machine stopped: the number of the token, or one past the last, the state in which it was refused, and why
pub record Stop (S C : Type 0) : Type 0 where
  pub number : ℕ
  pub state : S
  pub cause : C

-- goes on with what was answered, or stops for its cause
abbrev pub go_on : {A V S C : Type 0} → ℕ → S → (A → Result V (Stop S C)) → Result A C → Result V (Stop S C)
go_on number state more (Ok answer) = more answer
go_on number state more (Err cause) = Err (record { number = number; state = state; cause = cause })

-- what the machine makes of the texts from a state on, where the first has this number: `next` is the state after a token, and `finish`
-- what has been said, where the tokens may end
abbrev pub outcome : {T V S C : Type 0} → (S → Token T → Result S C) → (S → Result V C) → S → ℕ → List T → Result V (Stop S C)
outcome next finish state number [] = go_on number state (λ value. Ok value) (finish state)
outcome next finish state number (text ∷ texts) =
    go_on number state (λ after. outcome next finish after (number + 1) texts) (next state (record { number = number; text = text }))
