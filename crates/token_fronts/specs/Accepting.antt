-- The tokens that a machine takes to their end, as a relation over the tokens themselves.
use Rattle.std.specs.Prelude.{◌≡◌, ℕ, ◌+◌, List, [], ◌∷◌, Result, Ok, Err}
use Rattle.std.proofs.Common.{refl, ap, ◌∙◌, subst}
use Rattle.token_fronts.specs.Tokens.{Token, numbered}
use Rattle.token_fronts.specs.Machine.{go_on, outcome}

-- from this state the tokens lead to their end, where they have said the value
pub data Accepts {T V S C : Type 0} (next : S → Token T → Result S C) (finish : S → Result V C) : S → List (Token T) → V → Type 0 where
  ended : {state : S} {value : V} → finish state ≡ Ok value → Accepts next finish state [] value
  taken : {state after : S} {token : Token T} {tokens : List (Token T)} {value : V}
      → next state token ≡ Ok after
      → Accepts next finish after tokens value
      → Accepts next finish state (token ∷ tokens) value

module _ {T V S C : Type 0} (next : S → Token T → Result S C) (finish : S → Result V C) where
  -- the first token leads to a state, and at the end the machine has the value
  pub first_step : {state : S} {token : Token T} {tokens : List (Token T)} {value : V} → Accepts next finish state (token ∷ tokens) value
      → (after : S) × (next state token ≡ Ok after) × Accepts next finish after tokens value
  first_step (taken {after = after} e rest) = (after, e, rest)

  pub at_end : {state : S} {value : V} → Accepts next finish state [] value → finish state ≡ Ok value
  at_end (ended e) = e

  -- what is accepted is made, and what is made is accepted
  pub accepted_is_made : (state : S) (number : ℕ) (texts : List T) (value : V) → Accepts next finish state (numbered number texts) value
      → outcome next finish state number texts ≡ Ok value
  accepted_is_made state number [] value accepts = ap (go_on number state (λ v. Ok v)) (at_end accepts)
  accepted_is_made state number (text ∷ texts) value accepts =
      let step = first_step accepts in
      ap (go_on number state (λ after. outcome next finish after (number + 1) texts)) step.1 ∙ accepted_is_made step.0
      (number + 1) texts value step.2

  pub made_is_accepted : (state : S) (number : ℕ) (texts : List T) (value : V) → outcome next finish state number texts ≡ Ok value
      → Accepts next finish state (numbered number texts) value
  made_is_accepted state number [] value e = by_finish (finish state) refl e
    where
      by_finish : (answer : Result V C) → finish state ≡ answer → go_on number state (λ v. Ok v) answer ≡ Ok value
          → Accepts {T = T} next finish state [] value
      by_finish (Ok made) is e = let same : made ≡ value = cc in subst (λ (v : V). Accepts {T = T} next finish state [] v) same (ended is)
      by_finish (Err cause) is e = absurd (cc)
  made_is_accepted state number (text ∷ texts) value e =
      by_next (λ after. made_is_accepted after (number + 1) texts value) (next state (record { number = number; text = text })) refl e
    where
      by_next : ((after : S) → outcome next finish after (number + 1) texts ≡ Ok value
          → Accepts next finish after (numbered (number + 1) texts) value) → (answer : Result S C)
          → next state (record { number = number; text = text }) ≡ answer
          → go_on number state (λ after. outcome next finish after (number + 1) texts) answer ≡ Ok value
          → Accepts next finish state (record { number = number; text = text } ∷ numbered (number + 1) texts) value
      by_next rest (Ok after) is e = taken is (rest after e)
      by_next rest (Err cause) is e = absurd (cc)
