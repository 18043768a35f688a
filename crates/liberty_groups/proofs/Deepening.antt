-- A limit of one group more changes only what is too deep.
use Rattle.std.proofs.Common.{◌≡◌, ℕ, ◌+◌, ◌<◌, ◌≤◌, Bool, true, false, List, [], ◌∷◌, ◌++◌, length, Result, Ok, Err, refl, sym, ap, ◌∙◌, subst, arith, nat_lt, lt-ltb}
use Rattle.std.specs.Prelude.{⊤}
use Rattle.std.proofs.lemmas.Bool.{ltb-true}
use Rattle.token_fronts.specs.Tokens.{Token}
use Rattle.token_fronts.specs.Machine.{go_on, outcome}
use Rattle.token_fronts.specs.Stopping.{Reaches, there, step, Completes}
use Rattle.liberty_groups.specs.Tokens.{Lexeme, IsToken}
use Rattle.liberty_groups.specs.Groups.{Group}
use Rattle.liberty_groups.specs.Grammar.{goes_on_with, is_piece, is_name, is_library}
use Rattle.liberty_groups.specs.Modes.{Frame, State, settled, add_attribute, closed, start_step, args_step, library_step, opening_step, name_step, body_step, behind_name, value_step, more_step, group_step, behind_args, end_step, step_in, next, finish}
use Rattle.liberty_groups.specs.declared.scan.Kind.{Kind}
use Rattle.liberty_groups.specs.declared.scan.Kind.TheVariants as kind
use Rattle.liberty_groups.specs.declared.modes.Mode.{Mode}
use Rattle.liberty_groups.specs.declared.modes.Mode.TheVariants.{Start, LibraryName, LibraryArgs, LibraryBody, Body, Name, Colon, Value, Args, ArgsEnd, End}
use Rattle.liberty_groups.specs.declared.faults.Cause.{Cause}
use Rattle.liberty_groups.proofs.Refusing.{is_start}

-- what stands behind a step: something has been read, and no group is too deep
abbrev pub Later : State → Type 0
Later s = (is_start s.mode ≡ false) × (length s.frames ≤ 16)

abbrev After : Result State Cause → Type 0
After (Ok s) = Later s
After (Err cause) = ⊤

args_after : (k : Kind) (here behind : Mode) (s : State) (token : Lexeme) → is_start here ≡ false → is_start behind ≡ false → length s.frames ≤ 16 → After (args_step k here behind s token)
args_after kind.Word here behind s token h b le = (h, le)
args_after kind.Quoted here behind s token h b le = (h, le)
args_after kind.Comma here behind s token h b le = (h, le)
args_after kind.RightParen here behind s token h b le = (b, le)
args_after _ here behind s token h b le = tt

library_after : (k : Kind) (s : State) (token : Lexeme) → length s.frames ≤ 16 → After (library_step k s token)
library_after kind.LeftParen s token le = (refl, le)
library_after _ s token le = tt

opening_after : (k : Kind) (s : State) (token : Lexeme) → After (opening_step k s token)
opening_after kind.LeftBrace s token = (refl, omega arith)
opening_after _ s token = tt

closed_after : (frames : List Frame) → length frames ≤ 16 → Later (closed frames)
closed_after [] le = (refl, omega arith)
closed_after (frame ∷ []) le = (refl, omega arith)
closed_after (frame ∷ outer ∷ more) le = (refl, omega arith)

name_after : (is : Bool) (s : State) (token : Lexeme) → length s.frames ≤ 16 → After (name_step is s token)
name_after true s token le = (refl, le)
name_after false s token le = tt

body_after : (k : Kind) (s : State) (token : Lexeme) → length s.frames ≤ 16 → After (body_step k s token)
body_after kind.Semicolon s token le = (refl, le)
body_after kind.RightBrace s token le = closed_after s.frames le
body_after _ s token le = name_after (is_name token) s token le

settled_same : (name : List ℕ) (values : List (List ℕ)) (frames : List Frame) → length (add_attribute name values frames) ≡ length frames
settled_same name values [] = refl
settled_same name values (frame ∷ outer) = refl

settled_body : (k : Kind) (s : State) (token : Lexeme) → length s.frames ≤ 16 → After (body_step k (settled s) token)
settled_body k s token le = body_after k (settled s) token (subst (λ (n : ℕ). n ≤ 16) (sym (settled_same s.name s.parts s.frames)) le)

behind_name_after : (k : Kind) (s : State) (token : Lexeme) → length s.frames ≤ 16 → After (behind_name k s token)
behind_name_after kind.Colon s token le = (refl, le)
behind_name_after kind.LeftParen s token le = (refl, le)
behind_name_after _ s token le = tt

value_after : (is : Bool) (s : State) (token : Lexeme) → length s.frames ≤ 16 → After (value_step is s token)
value_after true s token le = (refl, le)
value_after false s token le = tt

more_after : (is : Bool) (s : State) (token : Lexeme) → length s.frames ≤ 16 → After (more_step is s token)
more_after true s token le = (refl, le)
more_after false s token le = settled_body token.kind s token le

group_after : (fits : Bool) (s : State) (token : Lexeme) → nat_lt (length s.frames) 16 ≡ fits → After (group_step fits s token)
group_after true s token below = let lt = ltb-true (length s.frames) 16 below in (refl, omega arith)
group_after false s token below = tt

args_end_after : (k : Kind) (s : State) (token : Lexeme) → length s.frames ≤ 16 → After (behind_args 16 k s token)
args_end_after kind.LeftBrace s token le = group_after (nat_lt (length s.frames) 16) s token refl
args_end_after _ s token le = settled_body token.kind s token le

end_after : (k : Kind) (s : State) (token : Lexeme) → length s.frames ≤ 16 → After (end_step k s token)
end_after kind.Semicolon s token le = (refl, le)
end_after _ s token le = tt

start_after : (is : Bool) (s : State) (token : Lexeme) → length s.frames ≤ 16 → After (start_step is s token)
start_after true s token le = (refl, le)
start_after false s token le = tt

step_after : (mode : Mode) (s : State) (token : Lexeme) → length s.frames ≤ 16 → After (step_in 16 mode s token)
step_after Start s token le = start_after (is_library token) s token le
step_after LibraryName s token le = library_after token.kind s token le
step_after LibraryArgs s token le = args_after token.kind LibraryArgs LibraryBody s token refl refl le
step_after LibraryBody s token le = opening_after token.kind s token
step_after Body s token le = body_after token.kind s token le
step_after Name s token le = behind_name_after token.kind s token le
step_after Colon s token le = value_after (is_piece token.kind) s token le
step_after Value s token le = more_after (goes_on_with token) s token le
step_after Args s token le = args_after token.kind Args ArgsEnd s token refl refl le
step_after ArgsEnd s token le = args_end_after token.kind s token le
step_after End s token le = end_after token.kind s token le

pub later : (s after : State) (token : Token Lexeme) → length s.frames ≤ 16 → next 16 s token ≡ Ok after → Later after
later s after token le e = subst After e (step_after s.mode s token.text le)

-- what is taken under a limit is taken under the next
fits_too : (fits : Bool) (s after : State) (token : Lexeme) → nat_lt (length s.frames) 16 ≡ fits → group_step fits s token ≡ Ok after → group_step (nat_lt (length s.frames) 17) s token ≡ Ok after
fits_too true s after token below e =
    let lt = ltb-true (length s.frames) 16 below in
    ap (λ b. group_step b s token) (lt-ltb (length s.frames) 17 (omega arith)) ∙ e
fits_too false s after token below e = absurd (cc)

behind_too : (k : Kind) (s after : State) (token : Lexeme) → behind_args 16 k s token ≡ Ok after → behind_args 17 k s token ≡ Ok after
behind_too kind.LeftBrace s after token e = fits_too (nat_lt (length s.frames) 16) s after token refl e
behind_too _ s after token e = e

step_too : (mode : Mode) (s after : State) (token : Lexeme) → step_in 16 mode s token ≡ Ok after → step_in 17 mode s token ≡ Ok after
step_too ArgsEnd s after token e = behind_too token.kind s after token e
step_too Start s after token e = e
step_too LibraryName s after token e = e
step_too LibraryArgs s after token e = e
step_too LibraryBody s after token e = e
step_too Body s after token e = e
step_too Name s after token e = e
step_too Colon s after token e = e
step_too Value s after token e = e
step_too Args s after token e = e
step_too End s after token e = e

pub reaches_too : {s last : State} {number : ℕ} {texts : List Lexeme} → Reaches (next 16) s number texts last → Reaches (next 17) s number texts last
reaches_too there = there
reaches_too {s} (step {after = after} {text = text} e rest) = step (step_too s.mode s after text e) (reaches_too rest)

-- something has been read, where tokens stand before
pub reaches_later : {s last : State} {number : ℕ} {texts : List Lexeme} → Reaches (next 16) s number texts last → Later s → Later last
reaches_later there h = h
reaches_later {s} {number = number} (step {after = after} {text = text} e rest) h = reaches_later rest (later s after (record { number = number; text = text }) h.1 e)

pub reaches_bound : {s last : State} {number : ℕ} {texts : List Lexeme} → Reaches (next 16) s number texts last → length s.frames ≤ 16 → length last.frames ≤ 16
reaches_bound there h = h
reaches_bound {s} {number = number} (step {after = after} {text = text} e rest) h = (reaches_later rest (later s after (record { number = number; text = text }) h e)).1

pub reaches_past : {s last : State} {number : ℕ} {texts : List Lexeme} → Reaches (next 16) s number texts last → length s.frames ≤ 16 → 0 < length texts → is_start last.mode ≡ false
reaches_past there h some = absurd (omega arith)
reaches_past {s} {number = number} (step {after = after} {text = text} e rest) h some = (reaches_later rest (later s after (record { number = number; text = text }) h e)).0

module _ (limit : ℕ) where
  made_behind : (s after : State) (number : ℕ) (text : Lexeme) (texts : List Lexeme) → next limit s (record { number = number; text = text }) ≡ Ok after → outcome (next limit) finish s number (text ∷ texts) ≡ outcome (next limit) finish after (number + 1) texts
  made_behind s after number text texts e = ap (go_on number s (λ (x : State). outcome (next limit) finish x (number + 1) texts)) e

  -- what completes the state that is reached and the next token completes both
  pub completes_there : {s last : State} {number : ℕ} {front : List Lexeme} (text : Lexeme) → Reaches (next limit) s number front last
      → ((n : ℕ) → Completes IsToken (next limit) finish last n (text ∷ [])) → Completes IsToken (next limit) finish s number (front ++ text ∷ [])
  completes_there text there last = last _
  completes_there {s} {number = number} text (step {after = after} {text = first} {texts = texts} e rest) last =
      let now = completes_there text rest last in
      record { more = now.more; tokens = now.tokens; value = now.value; made = made_behind s after number first ((texts ++ text ∷ []) ++ now.more) e ∙ now.made }

  -- what is refused in the state that is reached makes nothing of any text that goes on so
  pub refused_there : {s last : State} {number : ℕ} {front : List Lexeme} (text : Lexeme) (cause : Cause) (more : List Lexeme) (value : Group) → Reaches (next limit) s number front last
      → step_in limit last.mode last text ≡ Err cause → outcome (next limit) finish s number ((front ++ text ∷ []) ++ more) ≡ Ok value → ⊥
  refused_there {s} {number = number} text cause more value there refusal made =
      let stops : outcome (next limit) finish s number (text ∷ more) ≡ Err (record { number = number; state = s; cause = cause }) = ap (go_on number s (λ (x : State). outcome (next limit) finish x (number + 1) more)) refusal in
      absurd (cc)
  refused_there {s} {number = number} text cause more value (step {after = after} {text = first} {texts = texts} e rest) refusal made =
      refused_there text cause more value rest refusal (sym (made_behind s after number first ((texts ++ text ∷ []) ++ more) e) ∙ made)
