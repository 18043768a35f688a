-- A machine that makes of each list of tokens what a grammar says, and that can be completed from each of its states, finds the dead token.
use Rattle.std.specs.Prelude.{◌≡◌, ℕ, suc, ◌<◌, ◌≤◌, nat_le, Bool, true, false, MatchBool, List, [], ◌++◌, length, take, Result, Ok, Err}
use Rattle.std.proofs.Common.{sym, ◌∙◌, ap, subst, arith, refl}
use Rattle.std.proofs.lemmas.Bool.{le-leb, leb-true, leb-false, lt-leb}
use Rattle.token_fronts.specs.Tokens.{Token, numbered}
use Rattle.token_fronts.specs.DeadToken.{IsText, Begins, StaysAt, IsDeadToken}
use Rattle.token_fronts.specs.Machine.{Stop, outcome}
use Rattle.token_fronts.specs.Stopping.{Completes, Stopped, stopped}

-- the machine takes each text of the grammar to what the text says, what it makes of tokens is what they say, and from every state it can
-- be completed by tokens
pub record Fits {T V S C : Type 0} (IsToken : T → Type 0) (grammar : List (Token T) → V → Type 0) (next : S → Token T → Result S C)
    (finish : S → Result V C) (first : S) : Type 0 where
  pub takes : (texts : List T) (value : V) → grammar (numbered 1 texts) value → outcome next finish first 1 texts ≡ Ok value
  pub means : (texts : List T) (value : V) → outcome next finish first 1 texts ≡ Ok value → grammar (numbered 1 texts) value
  pub lives : (state : S) (number : ℕ) → Completes IsToken next finish state number []

module _ {T V : Type 0} (IsToken : T → Type 0) (grammar : List (Token T) → V → Type 0) where
  -- the test by which a number stands for the end of the file
  abbrev Stays : List T → ℕ → Bool → Type 0
  Stays texts number test = MatchBool test (Begins IsToken grammar (take number texts)) (IsText IsToken grammar texts)

  pub stays_within : (texts : List T) (number : ℕ) → number ≤ length texts → Begins IsToken grammar (take number texts)
      → StaysAt IsToken grammar texts number
  stays_within texts number within begins = subst (Stays texts number) (sym (le-leb number (length texts) within)) begins

  pub within_stays : (texts : List T) (number : ℕ) → number ≤ length texts → StaysAt IsToken grammar texts number
      → Begins IsToken grammar (take number texts)
  within_stays texts number within stays = subst (Stays texts number) (le-leb number (length texts) within) stays

  pub past_stays : (texts : List T) (number : ℕ) → length texts < number → StaysAt IsToken grammar texts number
      → IsText IsToken grammar texts
  past_stays texts number past stays = subst (Stays texts number) (lt-leb number (length texts) past) stays

  -- there is one dead token at most
  pub one_dead_token : (texts : List T) (one other : ℕ) → IsDeadToken IsToken grammar texts one
      → IsDeadToken IsToken grammar texts other → one ≡ other
  one_dead_token texts one other dead dead' = by_order (nat_le one other) (nat_le other one) refl refl
    where
      by_order : (test back : Bool) → nat_le one other ≡ test → nat_le other one ≡ back → one ≡ other
      by_order false back e f = absurd (dead'.dead (dead.least other (leb-false one other e)))
      by_order true false e f = absurd (dead.dead (dead'.least one (leb-false other one f)))
      by_order true true e f = omega (arith, leb-true one other e, leb-true other one f)

module _ {T V S C : Type 0} (IsToken : T → Type 0) (grammar : List (Token T) → V → Type 0) (next : S → Token T → Result S C)
    (finish : S → Result V C) (first : S) (fits : Fits IsToken grammar next finish first) where
  begins : (front : List T) → Completes IsToken next finish first 1 front → Begins IsToken grammar front
  begins front completes = record {
    more = completes.more;
    tokens = completes.tokens;
    text = (completes.value, fits.means (front ++ completes.more) completes.value completes.made);
  }

  -- what the machine makes an error of is no text, nor does it go on to one
  no_text : (texts : List T) (stop : Stop S C) → outcome next finish first 1 texts ≡ Err stop → IsText IsToken grammar texts → ⊥
  no_text texts stop e text = let made = fits.takes texts text.0 text.1 in cc

  no_beginning : (front : List T) (stop : Stop S C) → ((more : List T) → outcome next finish first 1 (front ++ more) ≡ Err stop)
      → Begins IsToken grammar front → ⊥
  no_beginning front stop each begins = no_text (front ++ begins.more) stop (each begins.more) begins.text

  dead_at : (texts : List T) (stop : Stop S C) → outcome next finish first 1 texts ≡ Err stop
      → Stopped IsToken next finish first 1 texts stop → IsDeadToken IsToken grammar texts stop.number
  dead_at texts stop e at = record {
    dead = is_dead;
    least = λ before below. stays_within IsToken grammar texts before (omega arith)
        (begins (take before texts) (at.alive before (omega arith)));
    within = omega arith;
  }
    where
      number_is : stop.number ≡ suc at.taken
      number_is = at.is ∙ omega arith

      by_place : (test : Bool) → nat_le stop.number (length texts) ≡ test → StaysAt IsToken grammar texts stop.number → ⊥
      by_place true is stays =
          let below : stop.number ≤ length texts = leb-true stop.number (length texts) is in
          no_beginning (take stop.number texts) stop
          (λ more. ap (λ n. outcome next finish first 1 (take n texts ++ more)) number_is ∙ at.dead (omega arith) more)
          (within_stays IsToken grammar texts stop.number below stays)
      by_place false is stays = no_text texts stop e
          (past_stays IsToken grammar texts stop.number (leb-false stop.number (length texts) is) stays)

      is_dead : StaysAt IsToken grammar texts stop.number → ⊥
      is_dead = by_place (nat_le stop.number (length texts)) refl

  -- the number of the token with which the machine stops is that of the dead token
  pub dead_token : (texts : List T) (stop : Stop S C) → outcome next finish first 1 texts ≡ Err stop
      → IsDeadToken IsToken grammar texts stop.number
  dead_token texts stop e = dead_at texts stop e (stopped IsToken next finish fits.lives first 1 texts stop e)

  -- tokens say one thing at most
  pub one_value : (texts : List T) (one other : V) → grammar (numbered 1 texts) one → grammar (numbered 1 texts) other → one ≡ other
  one_value texts one other says says' = let made = fits.takes texts one says in let made' = fits.takes texts other says' in cc
