-- Where tokens lead a machine, where they stop it, and what it makes of them.
use Rattle.std.proofs.Common.{◌≡◌, ℕ, ◌+◌, List, [], ◌∷◌, ◌++◌, length, Result, Ok, Err, refl, sym, ap, ◌∙◌, arith, append_assoc, append-nil}
use Rattle.token_fronts.specs.Tokens.{Token}
use Rattle.token_fronts.specs.Machine.{go_on, outcome}

module _ {T V S C : Type 0} (next : S → Token T → Result S C) (finish : S → Result V C) (first : S) where
  -- with these tokens before them the machine makes of any tokens what it makes of them from this state on
  abbrev pub Leads : List T → S → Type 0
  Leads before state = (tokens : List T) → outcome next finish first 1 (before ++ tokens)
      ≡ outcome next finish state (length before + 1) tokens

  -- it stops at the token of this number
  abbrev pub Stops : List T → ℕ → C → Type 0
  Stops tokens number cause = (state : S) ×
      (outcome next finish first 1 tokens ≡ Err (record { number = number; state = state; cause = cause }))

  abbrev pub Makes : List T → V → Type 0
  Makes tokens value = outcome next finish first 1 tokens ≡ Ok value

  pub leads_first : Leads [] first
  leads_first tokens = refl

  one_longer : (tokens : List T) (token : T) → length (tokens ++ token ∷ []) ≡ length tokens + 1
  one_longer [] token = refl
  one_longer (t ∷ tokens) token = let rest = one_longer tokens token in omega arith

  -- one token more
  pub leads_on : (before : List T) (number : ℕ) (state now : S) (text : T)
      → number ≡ length before + 1 → Leads before state → next state (record { number = number; text = text }) ≡ Ok now
      → Leads (before ++ text ∷ []) now
  leads_on before number state now text count leads moves tokens =
      let longer : length before + 1 + 1 ≡ length (before ++ text ∷ []) + 1 = let e = one_longer before text in omega arith in
      ap (outcome next finish first 1) (append_assoc before (text ∷ []) tokens)
      ∙ leads (text ∷ tokens)
      ∙ ap (go_on (length before + 1) state (λ (s : S). outcome next finish s (length before + 1 + 1) tokens))
      (ap (λ n. next state (record { number = n; text = text })) (sym count) ∙ moves)
      ∙ ap (λ n. outcome next finish now n tokens) longer

  pub leads_to_stop : (before more : List T) (number : ℕ) (state : S) (text : T) (cause : C)
      → number ≡ length before + 1 → Leads before state → next state (record { number = number; text = text }) ≡ Err cause
      → Stops (before ++ text ∷ more) number cause
  leads_to_stop before more number state text cause count leads refusal = (
    state,
    leads (text ∷ more)
        ∙ ap (go_on (length before + 1) state (λ (s : S). outcome next finish s (length before + 1 + 1) more))
        (ap (λ n. next state (record { number = n; text = text })) (sym count) ∙ refusal)
        ∙ ap (λ n. Err (record { number = n; state = state; cause = cause })) (sym count),
  )

  -- the end
  at_end : (before : List T) (state : S) (answer : Result V C) → Leads before state → finish state ≡ answer
      → outcome next finish first 1 before ≡ go_on (length before + 1) state (λ value. Ok value) answer
  at_end before state answer leads e =
      sym (ap (outcome next finish first 1) (append-nil before)) ∙ leads [] ∙ ap
      (go_on (length before + 1) state (λ (value : V). Ok value)) e

  pub leads_to_value : (before : List T) (state : S) (value : V) → Leads before state → finish state ≡ Ok value → Makes before value
  leads_to_value before state value leads e = at_end before state (Ok value) leads e

  pub leads_to_end : (before : List T) (state : S) (cause : C) → Leads before state → finish state ≡ Err cause
      → Stops before (length before + 1) cause
  leads_to_end before state cause leads e = (state, at_end before state (Err cause) leads e)
