-- A reader that takes any word for a number goes the same way as one that does not, up to a word that is none.
use Rattle.std.proofs.Common.{◌≡◌, ℕ, ◌+◌, List, [], ◌∷◌, ◌++◌, Option, Some, None, Result, Ok, Err, refl, sym, ap, ◌∙◌, subst}
use Rattle.token_fronts.specs.Tokens.{Token}
use Rattle.token_fronts.specs.Machine.{go_on, outcome}
use Rattle.token_fronts.specs.Stopping.{Reaches, there, step, Completes}
use Rattle.sdf_reader.specs.Tokens.{Lexeme, IsToken}
use Rattle.sdf_reader.specs.Rows.{no_value}
use Rattle.sdf_reader.specs.Causes.{IsAnyWord}
use Rattle.sdf_reader.specs.Steps.{class_of, cause_of, Move, next_of}
use Rattle.sdf_reader.specs.Modes.{State, to_mode, numbered_by, applied, moved, next, finish, Decides}
use Rattle.sdf_reader.specs.Modes.{step as step_of}
use Rattle.sdf_reader.specs.declared.scan.Kind.{Kind}
use Rattle.sdf_reader.specs.declared.modes.Mode.{Mode}
use Rattle.sdf_reader.specs.declared.modes.Action.{Action}
use Rattle.sdf_reader.specs.declared.modes.Action.TheVariants.{Number}
use Rattle.sdf_reader.specs.declared.rows.Value.{Value}
use Rattle.sdf_reader.specs.declared.rows.SdfRow.{SdfRow}
use Rattle.sdf_reader.specs.declared.timescales.Timescale.{Timescale}
use Rattle.sdf_reader.specs.declared.ends.SdfCause.{SdfCause}
use Rattle.sdf_reader.specs.declared.ends.SdfCause.TheVariants.{BadNumber}
use Rattle.sdf_reader.proofs.Clashes.{never, never_refused, same_ok, same_err, same_some}

-- any word says a value without a number
abbrev pub any : Timescale → List ℕ → Option Value
any scale word = Some no_value

pub any_decides : Decides IsAnyWord any
any_decides = record { finds = λ scale word value is. ap (λ v. Some v) (sym is); means = λ scale word value e. sym (same_some e) }

-- two states that wait for the same
pub record Alike (one other : State) : Type 0 where
  pub mode : one.mode ≡ other.mode

-- an answer that leads to a state like this one
abbrev LeadsLike : Result State SdfCause → State → Type 0
LeadsLike answer after = (like : State) × (answer ≡ Ok like) × Alike after like

module _ (number : Timescale → List ℕ → Option Value) where
  abbrev Gives : Result State SdfCause → State → Type 0
  Gives answer after = answer ≡ Ok after

  -- states that steps make, which are alike
  both : (some after like : State) (answer : Result State SdfCause) → Gives (Ok some) after → answer ≡ Ok like → some.mode ≡ like.mode → LeadsLike answer after
  both some after like answer e is m =
      (like, is, record { mode = ap (λ (s : State). s.mode) (sym (same_ok e)) ∙ m })

  numbered : (found : Option Value) (s after like : State) → Alike s like → Gives (numbered_by found s) after → LeadsLike (numbered_by (Some no_value) like) after
  numbered (Some value) s after like alike e = both _ after _ _ e refl alike.mode
  numbered None s after like alike e = never e

  -- what one takes, the other takes
  action_like : (action : Action) (s after like : State) (bytes : List ℕ) → Alike s like → Gives (applied number action s bytes) after → LeadsLike (applied any action like bytes) after
  action_like Number s after like bytes alike e = numbered (number s.scale bytes) s after like alike e
  action_like _ s after like bytes alike e = both _ after _ _ e refl alike.mode

  moved_like : (k : Kind) (move : Move) (s after like : State) (bytes : List ℕ) → Alike s like → Gives (moved number k move s bytes) after → LeadsLike (moved any k move like bytes) after
  moved_like k None s after like bytes alike e = never e
  moved_like k (Some to) s after like bytes alike e = action_like to.1 (to_mode to.0 s) after (to_mode to.0 like) bytes (record { mode = refl }) e

  next_like : (s after like : State) (token : Token Lexeme) → Alike s like → Gives (next number s token) after → LeadsLike (next any like token) after
  next_like s after like token alike e =
      let bytes : List ℕ = token.text.bytes in
      let k : Kind = token.text.kind in
      let there = moved_like k (next_of s.mode (class_of k bytes) bytes) s after like bytes alike e in
      (there.0, ap (λ (m : Mode). moved any k (next_of m (class_of k bytes) bytes) like bytes) (sym alike.mode) ∙ there.1, there.2)

  pub reaches_like : {s last : State} {n : ℕ} {texts : List Lexeme} (like : State) → Alike s like → Reaches (next number) s n texts last → (end : State) × Reaches (next any) like n texts end × Alike last end
  reaches_like like alike there = (like, there, alike)
  reaches_like {s} {n = n} like alike (step {after = after} {text = text} e rest) =
      let now = next_like s after like (record { number = n; text = text }) alike e in
      let later = reaches_like now.0 now.2 rest in
      (later.0, step now.1 later.1, later.2)

  -- a word in the place of a number, that is none, or a token that any reader refuses
  pub data Stays (s : State) (token : Lexeme) : SdfCause → Type 0 where
    in_number : {m : Mode} → next_of s.mode (class_of token.kind token.bytes) token.bytes ≡ Some (m, Number) → Stays s token BadNumber
    nowhere : next_of s.mode (class_of token.kind token.bytes) token.bytes ≡ None → Stays s token (cause_of token.kind)

  no_number : (m : Mode) (found : Option Value) (s : State) (token : Lexeme) (cause : SdfCause) → next_of s.mode (class_of token.kind token.bytes) token.bytes ≡ Some (m, Number) → numbered_by found (to_mode m s) ≡ Err cause → Stays s token cause
  no_number m (Some value) s token cause is e = never_refused e
  no_number m None s token cause is e = subst (Stays s token) (same_err e) (in_number is)

  stays_by : (m : Mode) (action : Action) (s : State) (token : Lexeme) (cause : SdfCause) → next_of s.mode (class_of token.kind token.bytes) token.bytes ≡ Some (m, action) → applied number action (to_mode m s) token.bytes ≡ Err cause → Stays s token cause
  stays_by m Number s token cause is e = no_number m (number s.scale token.bytes) s token cause is e
  stays_by m _ s token cause is e = never_refused e

  pub stays : (s : State) (token : Lexeme) (cause : SdfCause) (move : Move) → next_of s.mode (class_of token.kind token.bytes) token.bytes ≡ move → moved number token.kind move s token.bytes ≡ Err cause → Stays s token cause
  stays s token cause None is e = subst (Stays s token) (same_err e) (nowhere is)
  stays s token cause (Some to) is e = stays_by to.0 to.1 s token cause is e

module _ (number : Timescale → List ℕ → Option Value) where
  made_behind : (s after : State) (n : ℕ) (text : Lexeme) (texts : List Lexeme) → next number s (record { number = n; text = text }) ≡ Ok after → outcome (next number) finish s n (text ∷ texts) ≡ outcome (next number) finish after (n + 1) texts
  made_behind s after n text texts e = ap (go_on n s (λ (x : State). outcome (next number) finish x (n + 1) texts)) e

  -- what completes the state that is reached and the next token completes both
  pub completes_there : {s last : State} {n : ℕ} {front : List Lexeme} (text : Lexeme) → Reaches (next number) s n front last
      → ((m : ℕ) → Completes IsToken (next number) finish last m (text ∷ [])) → Completes IsToken (next number) finish s n (front ++ text ∷ [])
  completes_there text there last = last _
  completes_there {s} {n = n} text (step {after = after} {text = first} {texts = texts} e rest) last =
      let now = completes_there text rest last in
      record { more = now.more; tokens = now.tokens; value = now.value; made = made_behind s after n first ((texts ++ text ∷ []) ++ now.more) e ∙ now.made }

  -- what is refused in the state that is reached makes nothing of any text that goes on so
  pub refused_there : {s last : State} {n : ℕ} {front : List Lexeme} (text : Lexeme) (cause : SdfCause) (more : List Lexeme) (value : List SdfRow) → Reaches (next number) s n front last
      → step_of number last text.kind text.bytes ≡ Err cause → outcome (next number) finish s n ((front ++ text ∷ []) ++ more) ≡ Ok value → ⊥
  refused_there {s} {n = n} text cause more value there refusal made =
      let stops : outcome (next number) finish s n (text ∷ more) ≡ Err (record { number = n; state = s; cause = cause }) = ap (go_on n s (λ (x : State). outcome (next number) finish x (n + 1) more)) refusal in
      never (sym stops ∙ made)
  refused_there {s} {n = n} text cause more value (step {after = after} {text = first} {texts = texts} e rest) refusal made =
      refused_there text cause more value rest refusal (sym (made_behind s after n first ((texts ++ text ∷ []) ++ more) e) ∙ made)
