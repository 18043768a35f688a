-- Given bytes have one fault at most.
use Rattle.std.proofs.Common.{◌≡◌, ℕ, ◌<◌, true, false, List, take, Option, Some, None, Result, Ok, Err, refl, sym, ap, ◌∙◌, subst, arith}
use Rattle.std.specs.List.{slice_get}
use Rattle.token_fronts.specs.DeadToken.{IsDeadToken}
use Rattle.token_fronts.specs.Machine.{Stop}
use Rattle.token_fronts.specs.Stopping.{Refuses, at_token, at_end, Stopped, stopped}
use Rattle.token_fronts.specs.FrontLaw.{one_dead_token, dead_token}
use Rattle.liberty_groups.specs.Tokens.{Lexeme, AreTokens, IsToken, is_broken, line_at}
use Rattle.liberty_groups.specs.Groups.{Group}
use Rattle.liberty_groups.specs.Grammar.{IsLiberty}
use Rattle.liberty_groups.specs.Modes.{State, first_state, step_in, next, finish}
use Rattle.liberty_groups.specs.Causes.{token_at, place_of, IsOneDeeper, IsCause, bad_byte, open_text, open_comment, end_inside, not_library, too_deep, unexpected, IsFault}
use Rattle.liberty_groups.specs.declared.scan.Kind.{Kind}
use Rattle.liberty_groups.specs.declared.scan.Kind.TheVariants as kind
use Rattle.liberty_groups.specs.declared.faults.Cause.{Cause}
use Rattle.liberty_groups.specs.declared.faults.Cause.TheVariants as cause
use Rattle.liberty_groups.specs.declared.faults.SyntaxFault.{SyntaxFault}
use Rattle.liberty_groups.proofs.Living.{lives}
use Rattle.liberty_groups.proofs.Fitting.{fits}
use Rattle.liberty_groups.proofs.Parting.{one_parting}
use Rattle.liberty_groups.proofs.Refusing.{is_start, Why, bad, quoted, note, first, deep, other, why, end_cause}
use Rattle.liberty_groups.proofs.Causing.{still_first, number_is, here, one_deeper, not_deeper, at_first}
use Rattle.liberty_groups.proofs.SoFar.{made, says_tree}

module _ (texts : List Lexeme) (stop : Stop State Cause) (at : Stopped IsToken (next 16) finish first_state 1 texts stop) where
  -- a token of a kind is no other
  unlike : (token : Lexeme) (k : Kind) → token.kind ≡ k → is_broken k ≡ true → is_broken token.kind ≡ false → ⊥
  unlike token k is broken whole = let e : is_broken token.kind ≡ true = ap is_broken is ∙ broken in cc

  -- the cause of a token that is refused, where it is of one of the broken kinds, whole, or a `{` that is too deep
  from_bad : (token : Lexeme) (given : Cause) → token.kind ≡ kind.Bad → Why stop.state token given → cause.BadByte ≡ given
  from_bad token given is (bad e) = refl
  from_bad token given is (quoted e) = absurd (cc)
  from_bad token given is (note e) = absurd (cc)
  from_bad token given is (first m whole) = absurd (unlike token kind.Bad is refl whole)
  from_bad token given is (deep m e le) = absurd (cc)
  from_bad token given is (other m whole refusal) = absurd (unlike token kind.Bad is refl whole)

  from_text : (token : Lexeme) (given : Cause) → token.kind ≡ kind.OpenQuoted → Why stop.state token given → cause.OpenText ≡ given
  from_text token given is (bad e) = absurd (cc)
  from_text token given is (quoted e) = refl
  from_text token given is (note e) = absurd (cc)
  from_text token given is (first m whole) = absurd (unlike token kind.OpenQuoted is refl whole)
  from_text token given is (deep m e le) = absurd (cc)
  from_text token given is (other m whole refusal) = absurd (unlike token kind.OpenQuoted is refl whole)

  from_comment : (token : Lexeme) (given : Cause) → token.kind ≡ kind.OpenNote → Why stop.state token given → cause.OpenComment ≡ given
  from_comment token given is (bad e) = absurd (cc)
  from_comment token given is (quoted e) = absurd (cc)
  from_comment token given is (note e) = refl
  from_comment token given is (first m whole) = absurd (unlike token kind.OpenNote is refl whole)
  from_comment token given is (deep m e le) = absurd (cc)
  from_comment token given is (other m whole refusal) = absurd (unlike token kind.OpenNote is refl whole)

  starts : stop.number ≡ 1 → is_start stop.state.mode ≡ true
  starts one =
      let taken : at.taken ≡ 0 = let e = number_is texts stop at in omega arith in
      still_first (take at.taken texts) stop.state (ap (λ n. take n texts) taken) at.reached

  from_first : (token : Lexeme) (given : Cause) → stop.number ≡ 1 → is_broken token.kind ≡ false → Why stop.state token given → cause.NotLibrary ≡ given
  from_first token given one whole (bad e) = absurd (unlike token kind.Bad e refl whole)
  from_first token given one whole (quoted e) = absurd (unlike token kind.OpenQuoted e refl whole)
  from_first token given one whole (note e) = absurd (unlike token kind.OpenNote e refl whole)
  from_first token given one whole (first m _) = refl
  from_first token given one whole (deep m e le) = absurd (let begun : false ≡ true = sym (ap is_start m) ∙ starts one in cc)
  from_first token given one whole (other later _ refusal) = absurd (let begun = starts one in cc)

  -- a first `{` is never one deeper
  from_deep : (token : Lexeme) (given : Cause) → slice_get texts at.taken ≡ Some token → token.kind ≡ kind.LeftBrace → IsOneDeeper texts stop.number → step_in 16 stop.state.mode stop.state token ≡ Err given → Why stop.state token given → cause.TooDeep ≡ given
  from_deep token given there is deeper refusal (bad e) = absurd (cc)
  from_deep token given there is deeper refusal (quoted e) = absurd (cc)
  from_deep token given there is deeper refusal (note e) = absurd (cc)
  from_deep token given there is deeper refusal (first m whole) =
      absurd (not_deeper texts stop at token _ there (ap (λ mode. step_in 17 mode stop.state token) m ∙ sym (ap (λ mode. step_in 16 mode stop.state token) m) ∙ refusal) deeper)
  from_deep token given there is deeper refusal (deep m e le) = refl
  from_deep token given there is deeper refusal (other m whole refuses) = absurd (not_deeper texts stop at token _ there (refuses 17) deeper)

  from_other : (token : Lexeme) (given : Cause) → slice_get texts at.taken ≡ Some token → 1 < stop.number → is_broken token.kind ≡ false → (IsOneDeeper texts stop.number → ⊥) → Why stop.state token given → cause.Unexpected ≡ given
  from_other token given there later whole none (bad e) = absurd (unlike token kind.Bad e refl whole)
  from_other token given there later whole none (quoted e) = absurd (unlike token kind.OpenQuoted e refl whole)
  from_other token given there later whole none (note e) = absurd (unlike token kind.OpenNote e refl whole)
  from_other token given there later whole none (first m _) = absurd (let one = at_first texts stop at at.taken refl m in omega arith)
  from_other token given there later whole none (deep m e le) = absurd (none (one_deeper texts stop at token there m e))
  from_other token given there later whole none (other _ _ refusal) = refl

  same_token : (token that : Lexeme) → slice_get texts at.taken ≡ Some token → token_at texts stop.number ≡ Some that → token ≡ that
  same_token token that e there = let known : token_at texts stop.number ≡ Some token = here texts stop at (Some token) e in cc

  is_kind : (token that : Lexeme) (k : Kind) → slice_get texts at.taken ≡ Some token → token_at texts stop.number ≡ Some that → that.kind ≡ k → token.kind ≡ k
  is_kind token that k e there is = ap (λ (t : Lexeme). t.kind) (same_token token that e there) ∙ is

  is_whole : (token that : Lexeme) → slice_get texts at.taken ≡ Some token → token_at texts stop.number ≡ Some that → is_broken that.kind ≡ false → is_broken token.kind ≡ false
  is_whole token that e there whole = ap (λ (t : Lexeme). is_broken t.kind) (same_token token that e there) ∙ whole

  at_a_token : (token : Lexeme) (given c : Cause) → slice_get texts at.taken ≡ Some token → step_in 16 stop.state.mode stop.state token ≡ Err given → IsCause texts stop.number c → c ≡ given
  at_a_token token given c e refusal (bad_byte {token = that} there is) = from_bad token given (is_kind token that kind.Bad e there is) (why stop.state token given refusal)
  at_a_token token given c e refusal (open_text {token = that} there is) = from_text token given (is_kind token that kind.OpenQuoted e there is) (why stop.state token given refusal)
  at_a_token token given c e refusal (open_comment {token = that} there is) = from_comment token given (is_kind token that kind.OpenNote e there is) (why stop.state token given refusal)
  at_a_token token given c e refusal (end_inside there) = absurd (let known : token_at texts stop.number ≡ Some token = here texts stop at (Some token) e in cc)
  at_a_token token given c e refusal (not_library {token = that} one there whole) = from_first token given one (is_whole token that e there whole) (why stop.state token given refusal)
  at_a_token token given c e refusal (too_deep {token = that} there is deeper) = from_deep token given e (is_kind token that kind.LeftBrace e there is) deeper refusal (why stop.state token given refusal)
  at_a_token token given c e refusal (unexpected {token = that} later there whole none) = from_other token given e later (is_whole token that e there whole) none (why stop.state token given refusal)

  no_token : (that : Lexeme) → slice_get texts at.taken ≡ None → token_at texts stop.number ≡ Some that → ⊥
  no_token that e there = let known : token_at texts stop.number ≡ None = here texts stop at None e in cc

  at_the_end : (given c : Cause) → slice_get texts at.taken ≡ None → given ≡ cause.EndInside → IsCause texts stop.number c → c ≡ given
  at_the_end given c e is (end_inside there) = sym is
  at_the_end given c e is (bad_byte there k) = absurd (no_token _ e there)
  at_the_end given c e is (open_text there k) = absurd (no_token _ e there)
  at_the_end given c e is (open_comment there k) = absurd (no_token _ e there)
  at_the_end given c e is (not_library one there whole) = absurd (no_token _ e there)
  at_the_end given c e is (too_deep there k deeper) = absurd (no_token _ e there)
  at_the_end given c e is (unexpected later there whole none) = absurd (no_token _ e there)

  by_why : (o : Option Lexeme) (c : Cause) → slice_get texts at.taken ≡ o → Refuses (next 16) finish stop o → IsCause texts stop.number c → c ≡ stop.cause
  by_why (Some token) c e (at_token refusal) is = at_a_token token stop.cause c e refusal is
  by_why None c e (at_end refusal) is = at_the_end stop.cause c e (end_cause stop.state.mode stop.state.frames stop.cause refusal) is

one_cause : (texts : List Lexeme) (stop : Stop State Cause) (c : Cause) → made texts ≡ Err stop → IsCause texts stop.number c → c ≡ stop.cause
one_cause texts stop c e is =
    let at = stopped IsToken (next 16) finish (lives 16) first_state 1 texts stop e in
    by_why texts stop at (slice_get texts at.taken) c refl at.why is

-- a fault is the machine's stop
stop_fault : List ℕ → List Lexeme → Stop State Cause → SyntaxFault
stop_fault bytes tokens stop = record { token = stop.number; line = line_at bytes (place_of bytes (token_at tokens stop.number)); cause = stop.cause }

same_fault : (one that : SyntaxFault) → one.token ≡ that.token → one.line ≡ that.line → one.cause ≡ that.cause → one ≡ that
same_fault one that token line cause =
    ap (λ (n : ℕ). record { token = n; line = one.line; cause = one.cause }) token
    ∙ ap (λ (n : ℕ). record { token = that.token; line = n; cause = one.cause }) line
    ∙ ap (λ (c : Cause). record { token = that.token; line = that.line; cause = c }) cause

fault_is : (bytes : List ℕ) (fault : SyntaxFault) (is : IsFault bytes fault) (tokens : List Lexeme) (stop : Stop State Cause) → AreTokens bytes tokens → made tokens ≡ Err stop → fault ≡ stop_fault bytes tokens stop
unfolding stop_fault
fault_is bytes fault is tokens stop parted e =
    let same : is.tokens ≡ tokens = one_parting bytes is.tokens tokens is.parted parted in
    let number : fault.token ≡ stop.number = one_dead_token IsToken IsLiberty tokens fault.token stop.number (subst (λ (l : List Lexeme). IsDeadToken IsToken IsLiberty l fault.token) same is.dead) (dead_token IsToken IsLiberty (next 16) finish first_state (fits 16) tokens stop e) in
    let because : IsCause tokens stop.number fault.cause = subst (λ (k : ℕ). IsCause tokens k fault.cause) number (subst (λ (l : List Lexeme). IsCause l fault.token fault.cause) same is.cause) in
    same_fault fault (stop_fault bytes tokens stop) number
    (is.line ∙ ap (λ l. line_at bytes (place_of bytes (token_at l fault.token))) same ∙ ap (λ k. line_at bytes (place_of bytes (token_at tokens k))) number)
    (one_cause tokens stop fault.cause e because)

pub one_fault : (bytes : List ℕ) (one that : SyntaxFault) → IsFault bytes one → IsFault bytes that → one ≡ that
one_fault bytes one that fault faults = by (made fault.tokens) refl
  where
    by : (answer : Result Group (Stop State Cause)) → made fault.tokens ≡ answer → one ≡ that
    by (Ok tree) e = absurd (fault.nothing tree (says_tree bytes fault.tokens tree fault.parted e))
    by (Err stop) e = fault_is bytes one fault fault.tokens stop fault.parted e ∙ sym (fault_is bytes that faults fault.tokens stop fault.parted e)
