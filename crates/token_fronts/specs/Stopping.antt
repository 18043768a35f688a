-- Where a machine stops, and what it has made of the fronts before.
use Rattle.std.specs.Prelude.{◌≡◌, ℕ, zero, suc, ◌+◌, ◌<◌, ◌≤◌, List, [], ◌∷◌, ◌++◌, length, take, Option, Some, None, Result, Ok, Err}
use Rattle.std.specs.List.{AllByRecursion, slice_get}
use Rattle.std.proofs.Common.{refl, ap, ◌∙◌, subst, arith}
use Rattle.token_fronts.specs.Tokens.{Token}
use Rattle.token_fronts.specs.Machine.{Stop, go_on, outcome}

-- the machine takes the texts, from a state to another
pub data Reaches {T S C : Type 0} (next : S → Token T → Result S C) : S → ℕ → List T → S → Type 0 where
  there : {state : S} {number : ℕ} → Reaches next state number [] state
  step : {state after last : S} {number : ℕ} {text : T} {texts : List T}
      → next state (record { number = number; text = text }) ≡ Ok after
      → Reaches next after (number + 1) texts last
      → Reaches next state number (text ∷ texts) last

-- why it stops in a state: it refuses the token there, or the tokens may not end there
pub data Refuses {T V S C : Type 0} (next : S → Token T → Result S C) (finish : S → Result V C) (stop : Stop S C) : Option T → Type 0 where
  at_token : {text : T} → next stop.state (record { number = stop.number; text = text }) ≡ Err stop.cause
      → Refuses next finish stop (Some text)
  at_end : finish stop.state ≡ Err stop.cause → Refuses next finish stop None

-- the tokens from this state on can be completed
pub record Completes {T V S C : Type 0} (IsToken : T → Type 0) (next : S → Token T → Result S C) (finish : S → Result V C) (state : S)
    (number : ℕ) (front : List T) : Type 0 where
  pub more : List T
  pub tokens : AllByRecursion IsToken more
  pub value : V
  pub made : outcome next finish state number (front ++ more) ≡ Ok value

-- what is known where a machine has stopped: it took the texts before, could have been completed after each of them, and makes nothing of
-- any text that goes on so
pub record Stopped {T V S C : Type 0} (IsToken : T → Type 0) (next : S → Token T → Result S C) (finish : S → Result V C) (state : S)
    (number : ℕ) (texts : List T) (stop : Stop S C) : Type 0 where
  pub taken : ℕ
  pub is : stop.number ≡ number + taken
  pub within : taken ≤ length texts
  pub reached : Reaches next state number (take taken texts) stop.state
  pub why : Refuses next finish stop (slice_get texts taken)
  pub alive : (k : ℕ) → k ≤ taken → Completes IsToken next finish state number (take k texts)
  pub dead : taken < length texts → (more : List T) → outcome next finish state number (take (suc taken) texts ++ more) ≡ Err stop

module _ {T V S C : Type 0} (IsToken : T → Type 0) (next : S → Token T → Result S C) (finish : S → Result V C)
    (lives : (state : S) (number : ℕ) → Completes IsToken next finish state number []) where
  abbrev token : ℕ → T → Token T
  token number text = record { number = number; text = text }

  -- what is made after a step, and after a refusal
  after_step : (state after : S) (number : ℕ) (text : T) (texts : List T) → next state (token number text) ≡ Ok after
      → outcome next finish state number (text ∷ texts) ≡ outcome next finish after (number + 1) texts
  after_step state after number text texts e = ap (go_on number state (λ s. outcome next finish s (number + 1) texts)) e

  after_refusal : (state : S) (number : ℕ) (text : T) (texts : List T) (cause : C) → next state (token number text) ≡ Err cause
      → outcome next finish state number (text ∷ texts) ≡ Err (record { number = number; state = state; cause = cause })
  after_refusal state number text texts cause e = ap (go_on number state (λ s. outcome next finish s (number + 1) texts)) e

  later : (state after : S) (number : ℕ) (text : T) (texts : List T) (stop : Stop S C) → next state (token number text) ≡ Ok after
      → Stopped IsToken next finish after (number + 1) texts stop → Stopped IsToken next finish state number (text ∷ texts) stop
  later state after number text texts stop e rest = record {
    taken = suc rest.taken;
    is = rest.is ∙ omega arith;
    within = omega arith;
    reached = step e rest.reached;
    why = rest.why;
    alive = later_alive;
    dead = λ below more. after_step state after number text (take (suc rest.taken) texts ++ more) e ∙ rest.dead (omega arith) more;
  }
    where
      later_alive : (k : ℕ) → k ≤ suc rest.taken → Completes IsToken next finish state number (take k (text ∷ texts))
      later_alive zero below = lives state number
      later_alive (suc k) below =
          let now = rest.alive k (omega arith) in
          record {
            more = now.more;
            tokens = now.tokens;
            value = now.value;
            made = after_step state after number text (take k texts ++ now.more) e ∙ now.made;
          }

  -- it stops here, at a token or at the end
  here_token : (state : S) (number : ℕ) (text : T) (texts : List T) (cause : C) → next state (token number text) ≡ Err cause
      → Stopped IsToken next finish state number (text ∷ texts) (record { number = number; state = state; cause = cause })
  here_token state number text texts cause e = record {
    taken = zero;
    is = omega arith;
    within = omega arith;
    reached = there;
    why = at_token e;
    alive = λ k below. alive_at_once k (text ∷ texts) below;
    dead = λ below more. after_refusal state number text more cause e;
  }
    where
      alive_at_once : (k : ℕ) (all : List T) → k ≤ zero → Completes IsToken next finish state number (take k all)
      alive_at_once zero all below = lives state number
      alive_at_once (suc k) all below = absurd (omega arith)

  here_end : (state : S) (number : ℕ) (cause : C) → finish state ≡ Err cause
      → Stopped IsToken next finish state number [] (record { number = number; state = state; cause = cause })
  here_end state number cause e = record {
    taken = zero;
    is = omega arith;
    within = omega arith;
    reached = there;
    why = at_end e;
    alive = alive_at_once;
    dead = λ below more. absurd (omega arith);
  }
    where
      alive_at_once : (k : ℕ) → k ≤ zero → Completes IsToken next finish state number (take {A = T} k [])
      alive_at_once zero below = lives state number
      alive_at_once (suc k) below = absurd (omega arith)

  pub stopped : (state : S) (number : ℕ) (texts : List T) (stop : Stop S C) → outcome next finish state number texts ≡ Err stop
      → Stopped IsToken next finish state number texts stop
  stopped state number [] stop e = by_finish (finish state) refl e
    where
      by_finish : (answer : Result V C) → finish state ≡ answer → go_on number state (λ value. Ok value) answer ≡ Err stop
          → Stopped IsToken next finish state number [] stop
      by_finish (Ok value) is e = absurd (cc)
      by_finish (Err cause) is e =
          let same : record { number = number; state = state; cause = cause } ≡ stop = cc in
          subst (λ (s : Stop S C). Stopped IsToken next finish state number [] s) same (here_end state number cause is)
  stopped state number (text ∷ texts) stop e =
      by_next (λ after. stopped after (number + 1) texts stop) (next state (token number text)) refl e
    where
      by_next : ((after : S) → outcome next finish after (number + 1) texts ≡ Err stop
          → Stopped IsToken next finish after (number + 1) texts stop) → (answer : Result S C) → next state (token number text) ≡ answer
          → go_on number state (λ s. outcome next finish s (number + 1) texts) answer ≡ Err stop
          → Stopped IsToken next finish state number (text ∷ texts) stop
      by_next rest (Ok after) is e = later state after number text texts stop is (rest after e)
      by_next rest (Err cause) is e =
          let same : record { number = number; state = state; cause = cause } ≡ stop = cc in
          subst (λ (s : Stop S C). Stopped IsToken next finish state number (text ∷ texts) s) same
          (here_token state number text texts cause is)
