-- The cause of the dead token.
use Rattle.std.proofs.Common.{◌≡◌, ℕ, zero, suc, ◌+◌, ◌-◌, List, [], ◌∷◌, ◌++◌, take, Option, Some, None, Ok, Err, refl, sym, ap, ◌∙◌, subst, arith}
use Rattle.std.specs.List.{slice_get}
use Rattle.token_fronts.specs.DeadToken.{Begins}
use Rattle.token_fronts.specs.Machine.{Stop, go_on, outcome}
use Rattle.token_fronts.specs.Stopping.{Reaches, Refuses, at_token, at_end, Completes, Stopped, stopped}
use Rattle.sdf_reader.specs.Tokens.{Lexeme, IsToken, is_broken}
use Rattle.sdf_reader.specs.Rows.{no_value}
use Rattle.sdf_reader.specs.Grammar.{IsSdfBy}
use Rattle.sdf_reader.specs.Causes.{token_at, IsAnyWord, IsNumberPlace, IsCause, bad_byte, open_text, open_comment, end_inside, bad_number, unexpected}
use Rattle.sdf_reader.specs.Steps.{class_of, cause_of, Move, next_of}
use Rattle.sdf_reader.specs.Modes.{State, first_state, to_mode, with_entry, with_value, moved, step, next, finish}
use Rattle.sdf_reader.specs.declared.scan.Kind.{Kind}
use Rattle.sdf_reader.specs.declared.scan.Kind.TheVariants as kind
use Rattle.sdf_reader.specs.declared.modes.Mode.{Mode}
use Rattle.sdf_reader.specs.declared.modes.Action.TheVariants.{Number}
use Rattle.sdf_reader.specs.declared.rows.Value.{Value}
use Rattle.sdf_reader.specs.declared.timescales.Timescale.{Timescale}
use Rattle.sdf_reader.specs.declared.ends.SdfCause.{SdfCause}
use Rattle.sdf_reader.proofs.Living.{lives}
use Rattle.sdf_reader.proofs.Fitting.{fits}
use Rattle.sdf_reader.proofs.Refusing.{end_cause}
use Rattle.sdf_reader.proofs.Loosening.{any, any_decides, Alike, reaches_like, Stays, in_number, nowhere, stays, completes_there, refused_there}
use Rattle.sdf_reader.proofs.Clashes.{never_some, same_some}

take_one_more : (texts : List Lexeme) (n : ℕ) (text : Lexeme) → slice_get texts n ≡ Some text → take (suc n) texts ≡ take n texts ++ text ∷ []
take_one_more [] zero text e = never_some e
take_one_more [] (suc n) text e = never_some e
take_one_more (t ∷ texts) zero text e = ap (λ x. x ∷ []) (same_some e)
take_one_more (t ∷ texts) (suc n) text e = ap (λ l. t ∷ l) (take_one_more texts n text e)

module _ (number : Timescale → List ℕ → Option Value) (texts : List Lexeme) (stop : Stop State SdfCause) (at : Stopped IsToken (next number) finish first_state 1 texts stop) where
  number_is : stop.number ≡ suc at.taken
  number_is = at.is ∙ omega arith

  pub here : (o : Option Lexeme) → slice_get texts at.taken ≡ o → token_at texts stop.number ≡ o
  here o e =
      let minus : suc at.taken - 1 ≡ at.taken = omega arith in
      ap (λ n. slice_get texts (n - 1)) number_is ∙ ap (slice_get texts) minus ∙ e

  -- the front with the token, and the front before it
  front_is : (token : Lexeme) → slice_get texts at.taken ≡ Some token → take stop.number texts ≡ take at.taken texts ++ token ∷ []
  front_is token e = ap (λ n. take n texts) number_is ∙ take_one_more texts at.taken token e

  -- where a reader stands that takes any word for a number
  loose : (end : State) × Reaches (next any) first_state 1 (take at.taken texts) end × Alike stop.state end
  loose = reaches_like number first_state (record { mode = refl }) at.reached

  makes_there : (token : Lexeme) (move : Move) → next_of stop.state.mode (class_of token.kind token.bytes) token.bytes ≡ move → next_of loose.0.mode (class_of token.kind token.bytes) token.bytes ≡ move
  makes_there token move is = ap (λ (m : Mode). next_of m (class_of token.kind token.bytes) token.bytes) (sym loose.2.mode) ∙ is

  pub number_place : (token : Lexeme) (m : Mode) → slice_get texts at.taken ≡ Some token → next_of stop.state.mode (class_of token.kind token.bytes) token.bytes ≡ Some (m, Number) → IsNumberPlace texts stop.number
  number_place token m e is =
      let after : State = with_entry (with_value no_value loose.0.entry) (to_mode m loose.0) in
      let moves : step any loose.0 token.kind token.bytes ≡ Ok after = ap (λ (move : Move). moved any token.kind move loose.0 token.bytes) (makes_there token (Some (m, Number)) is) in
      let whole = completes_there any token loose.1 (λ n. completes_after n after moves) in
      subst (λ (front : List Lexeme). Begins IsToken (IsSdfBy IsAnyWord) front) (sym (front_is token e))
      (record { more = whole.more; tokens = whole.tokens; text = (whole.value, (fits IsAnyWord any any_decides).means ((take at.taken texts ++ token ∷ []) ++ whole.more) whole.value whole.made) })
    where
      completes_after : (n : ℕ) (after : State) → step any loose.0 token.kind token.bytes ≡ Ok after → Completes IsToken (next any) finish loose.0 n (token ∷ [])
      completes_after n after moves =
          let now = lives any after (n + 1) in
          record { more = now.more; tokens = now.tokens; value = now.value; made = ap (go_on n loose.0 (λ (x : State). outcome (next any) finish x (n + 1) now.more)) moves ∙ now.made }

  pub no_number_place : (token : Lexeme) → slice_get texts at.taken ≡ Some token → next_of stop.state.mode (class_of token.kind token.bytes) token.bytes ≡ None → IsNumberPlace texts stop.number → ⊥
  no_number_place token e is begins =
      let begins' : Begins IsToken (IsSdfBy IsAnyWord) (take at.taken texts ++ token ∷ []) = subst (λ (front : List Lexeme). Begins IsToken (IsSdfBy IsAnyWord) front) (front_is token e) begins in
      refused_there any token (cause_of token.kind) begins'.more begins'.text.0 loose.1 (ap (λ (move : Move). moved any token.kind move loose.0 token.bytes) (makes_there token None is))
      ((fits IsAnyWord any any_decides).takes ((take at.taken texts ++ token ∷ []) ++ begins'.more) begins'.text.0 begins'.text.1)

  by_kind : (token : Lexeme) (k : Kind) → slice_get texts at.taken ≡ Some token → token.kind ≡ k → (IsNumberPlace texts stop.number → ⊥) → IsCause texts stop.number (cause_of k)
  by_kind token kind.Bad e is none = bad_byte (here (Some token) e) is
  by_kind token kind.OpenQuoted e is none = open_text (here (Some token) e) is
  by_kind token kind.OpenNote e is none = open_comment (here (Some token) e) is
  by_kind token _ e is none = unexpected (here (Some token) e) (ap is_broken is) none

  cause_of_token : (token : Lexeme) (cause : SdfCause) → slice_get texts at.taken ≡ Some token → Stays number stop.state token cause → IsCause texts stop.number cause
  cause_of_token token cause e (in_number {m = m} is) = bad_number (here (Some token) e) (number_place token m e is)
  cause_of_token token cause e (nowhere is) = by_kind token token.kind e refl (no_number_place token e is)

  by_why : (o : Option Lexeme) → slice_get texts at.taken ≡ o → Refuses (next number) finish stop o → IsCause texts stop.number stop.cause
  by_why (Some token) e (at_token refusal) = cause_of_token token stop.cause e (stays number stop.state token stop.cause (next_of stop.state.mode (class_of token.kind token.bytes) token.bytes) refl refusal)
  by_why None e (at_end refusal) = subst (IsCause texts stop.number) (sym (end_cause stop.state.mode stop.state.rows stop.cause refusal)) (end_inside (here None e))

-- where the machine stops, its cause is that of the dead token
pub cause_is : (number : Timescale → List ℕ → Option Value) (texts : List Lexeme) (stop : Stop State SdfCause) → outcome (next number) finish first_state 1 texts ≡ Err stop → IsCause texts stop.number stop.cause
cause_is number texts stop e =
    let at = stopped IsToken (next number) finish (lives number) first_state 1 texts stop e in
    by_why number texts stop at (slice_get texts at.taken) refl at.why
