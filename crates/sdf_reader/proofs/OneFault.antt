-- A file has one fault at most: one dead token, and one cause of it.
use Rattle.std.proofs.Common.{◌≡◌, ℕ, false, List, Option, Some, None, Result, Ok, Err, refl, sym, ap, ◌∙◌, subst}
use Rattle.std.specs.List.{slice_get}
use Rattle.token_fronts.specs.Machine.{Stop}
use Rattle.token_fronts.specs.Stopping.{Refuses, at_token, at_end, Stopped, stopped}
use Rattle.token_fronts.specs.DeadToken.{IsDeadToken}
use Rattle.token_fronts.specs.FrontLaw.{one_dead_token, dead_token}
use Rattle.sdf_reader.specs.Tokens.{Lexeme, AreTokens, IsToken, is_broken}
use Rattle.sdf_reader.specs.Grammar.{IsSdf}
use Rattle.sdf_reader.specs.Causes.{token_at, IsNumberPlace, IsCause, bad_byte, open_text, open_comment, end_inside, bad_number, unexpected, IsFault}
use Rattle.sdf_reader.specs.Steps.{class_of, cause_of, next_of}
use Rattle.sdf_reader.specs.Modes.{State, first_state, next, finish}
use Rattle.sdf_reader.specs.declared.scan.Kind.{Kind}
use Rattle.sdf_reader.specs.declared.scan.Kind.TheVariants as kind
use Rattle.sdf_reader.specs.Classes.{Class}
use Rattle.sdf_reader.specs.Classes as class
use Rattle.sdf_reader.specs.declared.rows.Value.{Value}
use Rattle.sdf_reader.specs.declared.rows.SdfRow.{SdfRow}
use Rattle.sdf_reader.specs.declared.timescales.Timescale.{Timescale}
use Rattle.sdf_reader.specs.declared.ends.SdfCause.{SdfCause}
use Rattle.sdf_reader.specs.declared.ends.SdfCause.TheVariants as cause
use Rattle.sdf_reader.proofs.Living.{lives}
use Rattle.sdf_reader.proofs.Parting.{one_parting}
use Rattle.sdf_reader.proofs.Deciding.{deciding}
use Rattle.sdf_reader.proofs.Refusing.{broken_nowhere, end_cause}
use Rattle.sdf_reader.proofs.Loosening.{Stays, in_number, nowhere, stays}
use Rattle.sdf_reader.proofs.Causing.{here, number_place, no_number_place}
use Rattle.sdf_reader.proofs.SoFar.{fitting, made, says_rows}
use Rattle.sdf_reader.proofs.Clashes.{never_some, never_none, same_some, never_false}

-- a token that is not broken, and is refused where no number may stand
plain_cause : (k : Kind) → is_broken k ≡ false → cause.Unexpected ≡ cause_of k
plain_cause kind.Bad e = never_false e
plain_cause kind.OpenQuoted e = never_false e
plain_cause kind.OpenNote e = never_false e
plain_cause _ e = refl

module _ (number : Timescale → List ℕ → Option Value) (texts : List Lexeme) (stop : Stop State SdfCause) (at : Stopped IsToken (next number) finish first_state 1 texts stop) where
  same_token : (token other : Lexeme) → slice_get texts at.taken ≡ Some token → token_at texts stop.number ≡ Some other → other ≡ token
  same_token token other e there = same_some (sym there ∙ here number texts stop at (Some token) e)

  -- a broken token is refused for its own cause wherever it stands
  broken : (token : Lexeme) (c given : SdfCause) (k : Kind) → token.kind ≡ k → class_of k token.bytes ≡ class.Broken → cause_of k ≡ c → Stays number stop.state token given → c ≡ given
  broken token c given k is breaks because (in_number waits) =
      let nothing : next_of stop.state.mode (class_of token.kind token.bytes) token.bytes ≡ None =
      ap (λ (x : Kind). next_of stop.state.mode (class_of x token.bytes) token.bytes) is ∙ ap (λ (x : Class). next_of stop.state.mode x token.bytes) breaks ∙ broken_nowhere stop.state.mode token.bytes in
      never_some (sym nothing ∙ waits)
  broken token c given k is breaks because (nowhere refuses) = sym because ∙ ap cause_of (sym is)

  in_a_number : (token : Lexeme) (given : SdfCause) → slice_get texts at.taken ≡ Some token → IsNumberPlace texts stop.number → Stays number stop.state token given → cause.BadNumber ≡ given
  in_a_number token given e place (in_number waits) = refl
  in_a_number token given e place (nowhere refuses) = absurd (no_number_place number texts stop at token e refuses place)

  not_expected : (token : Lexeme) (given : SdfCause) → slice_get texts at.taken ≡ Some token → is_broken token.kind ≡ false → (IsNumberPlace texts stop.number → ⊥) → Stays number stop.state token given → cause.Unexpected ≡ given
  not_expected token given e whole none (in_number waits) = absurd (none (number_place number texts stop at token _ e waits))
  not_expected token given e whole none (nowhere refuses) = plain_cause token.kind whole

  at_a_token : (token : Lexeme) (given c : SdfCause) → slice_get texts at.taken ≡ Some token → Stays number stop.state token given → IsCause texts stop.number c → c ≡ given
  at_a_token token given c e s (bad_byte {token = other} there is) =
      broken token cause.BadByte given kind.Bad (ap (λ (t : Lexeme). t.kind) (sym (same_token token other e there)) ∙ is) refl refl s
  at_a_token token given c e s (open_text {token = other} there is) =
      broken token cause.OpenText given kind.OpenQuoted (ap (λ (t : Lexeme). t.kind) (sym (same_token token other e there)) ∙ is) refl refl s
  at_a_token token given c e s (open_comment {token = other} there is) =
      broken token cause.OpenComment given kind.OpenNote (ap (λ (t : Lexeme). t.kind) (sym (same_token token other e there)) ∙ is) refl refl s
  at_a_token token given c e s (end_inside there) = never_none (sym (here number texts stop at (Some token) e) ∙ there)
  at_a_token token given c e s (bad_number there place) = in_a_number token given e place s
  at_a_token token given c e s (unexpected {token = other} there whole none) =
      not_expected token given e (ap (λ (t : Lexeme). is_broken t.kind) (sym (same_token token other e there)) ∙ whole) none s

  no_token : {A : Type 0} {token : Lexeme} → slice_get texts at.taken ≡ None → token_at texts stop.number ≡ Some token → A
  no_token e there = never_some (sym (here number texts stop at None e) ∙ there)

  at_the_end : (given c : SdfCause) → slice_get texts at.taken ≡ None → given ≡ cause.EndInside → IsCause texts stop.number c → c ≡ given
  at_the_end given c e is (end_inside there) = sym is
  at_the_end given c e is (bad_byte there k) = no_token e there
  at_the_end given c e is (open_text there k) = no_token e there
  at_the_end given c e is (open_comment there k) = no_token e there
  at_the_end given c e is (bad_number there place) = no_token e there
  at_the_end given c e is (unexpected there whole none) = no_token e there

  by_why : (o : Option Lexeme) (c : SdfCause) → slice_get texts at.taken ≡ o → Refuses (next number) finish stop o → IsCause texts stop.number c → c ≡ stop.cause
  by_why (Some token) c e (at_token refusal) is = at_a_token token stop.cause c e (stays number stop.state token stop.cause (next_of stop.state.mode (class_of token.kind token.bytes) token.bytes) refl refusal) is
  by_why None c e (at_end refusal) is = at_the_end stop.cause c e (end_cause stop.state.mode stop.state.rows stop.cause refusal) is

one_cause : (texts : List Lexeme) (stop : Stop State SdfCause) (c : SdfCause) → made texts ≡ Err stop → IsCause texts stop.number c → c ≡ stop.cause
one_cause texts stop c e is =
    let at = stopped IsToken (next deciding) finish (lives deciding) first_state 1 texts stop e in
    by_why deciding texts stop at (slice_get texts at.taken) c refl at.why is

-- a fault is the machine's stop
fault_is : (bytes : List ℕ) (n : ℕ) (c : SdfCause) (fault : IsFault bytes n c) (tokens : List Lexeme) (stop : Stop State SdfCause) → AreTokens bytes tokens → made tokens ≡ Err stop → (n ≡ stop.number) × (c ≡ stop.cause)
fault_is bytes n c fault tokens stop parted e =
    let same : fault.tokens ≡ tokens = one_parting bytes fault.tokens tokens fault.parted parted in
    let number : n ≡ stop.number = one_dead_token IsToken IsSdf tokens n stop.number (subst (λ (l : List Lexeme). IsDeadToken IsToken IsSdf l n) same fault.dead) (dead_token IsToken IsSdf (next deciding) finish first_state fitting tokens stop e) in
    let because : IsCause tokens stop.number c = subst (λ (k : ℕ). IsCause tokens k c) number (subst (λ (l : List Lexeme). IsCause l n c) same fault.because) in
    (number, one_cause tokens stop c e because)

pub one_fault : (bytes : List ℕ) (one other : ℕ) (cause because : SdfCause) → IsFault bytes one cause → IsFault bytes other because → (one ≡ other) × (cause ≡ because)
one_fault bytes one other cause because fault faults = by (made fault.tokens) refl
  where
    by : (answer : Result (List SdfRow) (Stop State SdfCause)) → made fault.tokens ≡ answer → (one ≡ other) × (cause ≡ because)
    by (Ok rows) e = absurd (fault.nothing rows (says_rows bytes fault.tokens rows fault.parted e))
    by (Err stop) e =
        let first = fault_is bytes one cause fault fault.tokens stop fault.parted e in
        let second = fault_is bytes other because faults fault.tokens stop fault.parted e in
        (first.0 ∙ sym second.0, first.1 ∙ sym second.1)
