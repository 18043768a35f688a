-- The cause of the dead token.
use Rattle.std.proofs.Common.{◌≡◌, ℕ, zero, suc, ◌+◌, ◌-◌, ◌<◌, ◌≤◌, true, false, List, [], ◌∷◌, ◌++◌, length, take, Option, Some, None, Ok, Err, refl, sym, ap, ◌∙◌, subst, arith, nat_lt, lt-ltb}
use Rattle.std.specs.List.{slice_get}
use Rattle.token_fronts.specs.DeadToken.{Begins}
use Rattle.token_fronts.specs.Machine.{Stop, go_on, outcome}
use Rattle.token_fronts.specs.Stopping.{Reaches, there, step, Refuses, at_token, at_end, Completes, Stopped, stopped}
use Rattle.liberty_groups.specs.Tokens.{Lexeme, IsToken}
use Rattle.liberty_groups.specs.Grammar.{IsLibertyTo}
use Rattle.liberty_groups.specs.Causes.{token_at, IsOneDeeper, IsCause, bad_byte, open_text, open_comment, end_inside, not_library, too_deep, unexpected}
use Rattle.liberty_groups.specs.Modes.{State, first_state, frame_of, in_body, group_step, behind_args, step_in, next, finish}
use Rattle.liberty_groups.specs.declared.scan.Kind.TheVariants as kind
use Rattle.liberty_groups.specs.declared.modes.Mode.TheVariants.{Start, ArgsEnd}
use Rattle.liberty_groups.specs.declared.faults.Cause.{Cause}
use Rattle.liberty_groups.proofs.Living.{lives}
use Rattle.liberty_groups.proofs.Fitting.{fits}
use Rattle.liberty_groups.proofs.Refusing.{is_start, Why, bad, quoted, note, first, deep, other, why, end_cause}
use Rattle.liberty_groups.proofs.Deepening.{reaches_too, reaches_bound, reaches_past, completes_there, refused_there}

take_one_more : (texts : List Lexeme) (n : ℕ) (text : Lexeme) → slice_get texts n ≡ Some text → take (suc n) texts ≡ take n texts ++ text ∷ []
take_one_more [] zero text e = absurd (cc)
take_one_more [] (suc n) text e = absurd (cc)
take_one_more (t ∷ texts) zero text e = let same : t ≡ text = cc in ap (λ x. x ∷ []) same
take_one_more (t ∷ texts) (suc n) text e = ap (λ l. t ∷ l) (take_one_more texts n text e)

some_taken : (n : ℕ) (texts : List Lexeme) → 0 < n → n ≤ length texts → 0 < length (take n texts)
some_taken zero texts some le = absurd (omega arith)
some_taken (suc n) [] some le = absurd (omega arith)
some_taken (suc n) (t ∷ texts) some le = omega arith

pub still_first : (front : List Lexeme) (last : State) → front ≡ [] → Reaches (next 16) first_state 1 front last → is_start last.mode ≡ true
still_first front last e there = refl
still_first front last e (step s rest) = absurd (cc)

module _ (texts : List Lexeme) (stop : Stop State Cause) (at : Stopped IsToken (next 16) finish first_state 1 texts stop) where
  pub number_is : stop.number ≡ suc at.taken
  number_is = at.is ∙ omega arith

  pub here : (o : Option Lexeme) → slice_get texts at.taken ≡ o → token_at texts stop.number ≡ o
  here o e =
      let minus : suc at.taken - 1 ≡ at.taken = omega arith in
      ap (λ n. slice_get texts (n - 1)) number_is ∙ ap (slice_get texts) minus ∙ e

  -- the front with the token, and the front before it
  front_is : (token : Lexeme) → slice_get texts at.taken ≡ Some token → take stop.number texts ≡ take at.taken texts ++ token ∷ []
  front_is token e = ap (λ n. take n texts) number_is ∙ take_one_more texts at.taken token e

  pub one_deeper : (token : Lexeme) → slice_get texts at.taken ≡ Some token → stop.state.mode ≡ ArgsEnd → token.kind ≡ kind.LeftBrace → IsOneDeeper texts stop.number
  one_deeper token e mode is =
      let bound : length stop.state.frames ≤ 16 = reaches_bound at.reached (omega arith) in
      let fits_now : nat_lt (length stop.state.frames) 17 ≡ true = lt-ltb (length stop.state.frames) 17 (omega arith) in
      let after : State = in_body (frame_of stop.state ∷ stop.state.frames) in
      let moves : step_in 17 stop.state.mode stop.state token ≡ Ok after =
      ap (λ m. step_in 17 m stop.state token) mode ∙ ap (λ k. behind_args 17 k stop.state token) is ∙ ap (λ b. group_step b stop.state token) fits_now in
      let whole = completes_there 17 token (reaches_too at.reached) (λ n. completes_after n after moves) in
      subst (λ (front : List Lexeme). Begins IsToken (IsLibertyTo 17) front) (sym (front_is token e))
      (record { more = whole.more; tokens = whole.tokens; text = (whole.value, (fits 17).means ((take at.taken texts ++ token ∷ []) ++ whole.more) whole.value whole.made) })
    where
      completes_after : (n : ℕ) (after : State) → step_in 17 stop.state.mode stop.state token ≡ Ok after → Completes IsToken (next 17) finish stop.state n (token ∷ [])
      completes_after n after moves =
          let now = lives 17 after (n + 1) in
          record { more = now.more; tokens = now.tokens; value = now.value; made = ap (go_on n stop.state (λ (x : State). outcome (next 17) finish x (n + 1) now.more)) moves ∙ now.made }

  pub not_deeper : (token : Lexeme) (cause : Cause) → slice_get texts at.taken ≡ Some token → step_in 17 stop.state.mode stop.state token ≡ Err cause → IsOneDeeper texts stop.number → ⊥
  not_deeper token cause e refusal begins =
      let begins' : Begins IsToken (IsLibertyTo 17) (take at.taken texts ++ token ∷ []) = subst (λ (front : List Lexeme). Begins IsToken (IsLibertyTo 17) front) (front_is token e) begins in
      refused_there 17 token cause begins'.more begins'.text.0 (reaches_too at.reached) refusal
      ((fits 17).takes ((take at.taken texts ++ token ∷ []) ++ begins'.more) begins'.text.0 begins'.text.1)

  -- the first token alone is waited for at the start
  pub at_first : (taken : ℕ) → at.taken ≡ taken → stop.state.mode ≡ Start → stop.number ≡ 1
  at_first zero e mode = number_is ∙ ap suc e
  at_first (suc n) e mode =
      let le = at.within in
      let past : is_start stop.state.mode ≡ false = reaches_past at.reached (omega arith) (some_taken at.taken texts (omega (arith, e)) le) in
      absurd (let refusal : true ≡ false = sym (ap is_start mode) ∙ past in cc)

  past_first : (taken : ℕ) → at.taken ≡ taken → is_start stop.state.mode ≡ false → 1 < stop.number
  past_first (suc n) e later = omega (arith, number_is, e)
  past_first zero e later = absurd (let first : is_start stop.state.mode ≡ true = still_first (take at.taken texts) stop.state (ap (λ n. take n texts) e) at.reached in cc)

  cause_of_token : (token : Lexeme) (cause : Cause) → slice_get texts at.taken ≡ Some token → Why stop.state token cause → IsCause texts stop.number cause
  cause_of_token token cause e (bad is) = bad_byte (here (Some token) e) is
  cause_of_token token cause e (quoted is) = open_text (here (Some token) e) is
  cause_of_token token cause e (note is) = open_comment (here (Some token) e) is
  cause_of_token token cause e (first mode whole) = not_library (at_first at.taken refl mode) (here (Some token) e) whole
  cause_of_token token cause e (deep mode is le) = too_deep (here (Some token) e) is (one_deeper token e mode is)
  cause_of_token token cause e (other later whole refusal) = unexpected (past_first at.taken refl later) (here (Some token) e) whole (not_deeper token _ e (refusal 17))

  by_why : (o : Option Lexeme) → slice_get texts at.taken ≡ o → Refuses (next 16) finish stop o → IsCause texts stop.number stop.cause
  by_why (Some token) e (at_token refusal) = cause_of_token token stop.cause e (why stop.state token stop.cause refusal)
  by_why None e (at_end refusal) = subst (IsCause texts stop.number) (sym (end_cause stop.state.mode stop.state.frames stop.cause refusal)) (end_inside (here None e))

-- where the machine stops, its cause is that of the dead token
pub cause_is : (texts : List Lexeme) (stop : Stop State Cause) → outcome (next 16) finish first_state 1 texts ≡ Err stop → IsCause texts stop.number stop.cause
cause_is texts stop e =
    let at = stopped IsToken (next 16) finish (lives 16) first_state 1 texts stop e in
    by_why texts stop at (slice_get texts at.taken) refl at.why
