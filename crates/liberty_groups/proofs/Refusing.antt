-- Why a token is refused in a state.
use Rattle.std.proofs.Common.{◌≡◌, ℕ, ◌≤◌, Bool, true, false, List, length, Result, Err, refl, sym, ap, ◌∙◌, subst, nat_lt}
use Rattle.std.proofs.lemmas.Bool.{ltb-false}
use Rattle.liberty_groups.specs.Tokens.{Lexeme, is_broken}
use Rattle.liberty_groups.specs.Grammar.{goes_on_with, is_piece, is_name, is_library}
use Rattle.liberty_groups.specs.Modes.{Frame, State, settled, cause_of, start_step, args_step, library_step, opening_step, name_step, body_step, behind_name, value_step, more_step, group_step, behind_args, end_step, step_in, finish_in}
use Rattle.liberty_groups.specs.declared.scan.Kind.{Kind}
use Rattle.liberty_groups.specs.declared.scan.Kind.TheVariants as kind
use Rattle.liberty_groups.specs.declared.modes.Mode.{Mode}
use Rattle.liberty_groups.specs.declared.modes.Mode.TheVariants.{Start, LibraryName, LibraryArgs, LibraryBody, Body, Name, Colon, Value, Args, ArgsEnd, End}
use Rattle.liberty_groups.specs.declared.faults.Cause.{Cause}
use Rattle.liberty_groups.specs.declared.faults.Cause.TheVariants.{BadByte, OpenText, OpenComment, Unexpected, EndInside, TooDeep, NotLibrary}

abbrev pub is_start : Mode → Bool
is_start Start = true
is_start _ = false

pub data Why (s : State) (token : Lexeme) : Cause → Type 0 where
  bad : token.kind ≡ kind.Bad → Why s token BadByte
  quoted : token.kind ≡ kind.OpenQuoted → Why s token OpenText
  note : token.kind ≡ kind.OpenNote → Why s token OpenComment
  first : s.mode ≡ Start → is_broken token.kind ≡ false → Why s token NotLibrary
  deep : s.mode ≡ ArgsEnd → token.kind ≡ kind.LeftBrace → 16 ≤ length s.frames → Why s token TooDeep
  other : is_start s.mode ≡ false → is_broken token.kind ≡ false → ((limit : ℕ) → step_in limit s.mode s token ≡ Err Unexpected) → Why s token Unexpected

-- an answer that is an error, in the words of its type
abbrev Fails : Result State Cause → Cause → Type 0
Fails answer cause = answer ≡ Err cause

args_no : (k : Kind) (here behind : Mode) (s : State) (token : Lexeme) (cause : Cause) → Fails (args_step k here behind s token) cause → cause_of token.kind Unexpected ≡ cause
args_no kind.Word here behind s token cause e = absurd (cc)
args_no kind.Quoted here behind s token cause e = absurd (cc)
args_no kind.Comma here behind s token cause e = absurd (cc)
args_no kind.RightParen here behind s token cause e = absurd (cc)
args_no _ here behind s token cause e = cc

library_no : (k : Kind) (s : State) (token : Lexeme) (cause : Cause) → Fails (library_step k s token) cause → cause_of token.kind Unexpected ≡ cause
library_no kind.LeftParen s token cause e = absurd (cc)
library_no _ s token cause e = cc

opening_no : (k : Kind) (s : State) (token : Lexeme) (cause : Cause) → Fails (opening_step k s token) cause → cause_of token.kind Unexpected ≡ cause
opening_no kind.LeftBrace s token cause e = absurd (cc)
opening_no _ s token cause e = cc

name_no : (is : Bool) (s : State) (token : Lexeme) (cause : Cause) → Fails (name_step is s token) cause → cause_of token.kind Unexpected ≡ cause
name_no true s token cause e = absurd (cc)
name_no false s token cause e = cc

body_no : (k : Kind) (s : State) (token : Lexeme) (cause : Cause) → Fails (body_step k s token) cause → cause_of token.kind Unexpected ≡ cause
body_no kind.Semicolon s token cause e = absurd (cc)
body_no kind.RightBrace s token cause e = absurd (cc)
body_no _ s token cause e = name_no (is_name token) s token cause e

behind_name_no : (k : Kind) (s : State) (token : Lexeme) (cause : Cause) → Fails (behind_name k s token) cause → cause_of token.kind Unexpected ≡ cause
behind_name_no kind.Colon s token cause e = absurd (cc)
behind_name_no kind.LeftParen s token cause e = absurd (cc)
behind_name_no _ s token cause e = cc

value_no : (is : Bool) (s : State) (token : Lexeme) (cause : Cause) → Fails (value_step is s token) cause → cause_of token.kind Unexpected ≡ cause
value_no true s token cause e = absurd (cc)
value_no false s token cause e = cc

more_no : (is : Bool) (s : State) (token : Lexeme) (cause : Cause) → Fails (more_step is s token) cause → cause_of token.kind Unexpected ≡ cause
more_no true s token cause e = absurd (cc)
more_no false s token cause e = body_no token.kind (settled s) token cause e

end_no : (k : Kind) (s : State) (token : Lexeme) (cause : Cause) → Fails (end_step k s token) cause → cause_of token.kind Unexpected ≡ cause
end_no kind.Semicolon s token cause e = absurd (cc)
end_no _ s token cause e = cc

module _ (s : State) (token : Lexeme) (cause : Cause) where
  -- a refusal that no limit changes
  plain : (k : Kind) → token.kind ≡ k → is_start s.mode ≡ false → ((limit : ℕ) → Fails (step_in limit s.mode s token) cause) → cause_of k Unexpected ≡ cause → Why s token cause
  plain kind.Bad is later fails c = subst (Why s token) c (bad is)
  plain kind.OpenQuoted is later fails c = subst (Why s token) c (quoted is)
  plain kind.OpenNote is later fails c = subst (Why s token) c (note is)
  plain _ is later fails c = subst (Why s token) c (other later (ap is_broken is) (λ limit. fails limit ∙ ap (λ (x : Cause). Err x) (sym c)))

  at_start : (k : Kind) → token.kind ≡ k → s.mode ≡ Start → cause_of k NotLibrary ≡ cause → Why s token cause
  at_start kind.Bad is m c = subst (Why s token) c (bad is)
  at_start kind.OpenQuoted is m c = subst (Why s token) c (quoted is)
  at_start kind.OpenNote is m c = subst (Why s token) c (note is)
  at_start _ is m c = subst (Why s token) c (first m (ap is_broken is))

  at_library : (is : Bool) → s.mode ≡ Start → Fails (start_step is s token) cause → Why s token cause
  at_library true m e = absurd (cc)
  at_library false m e = at_start token.kind refl m (let c : cause_of token.kind NotLibrary ≡ cause = cc in c)

  at_group : (fits : Bool) → nat_lt (length s.frames) 16 ≡ fits → s.mode ≡ ArgsEnd → token.kind ≡ kind.LeftBrace → Fails (group_step fits s token) cause → Why s token cause
  at_group true below m is e = absurd (cc)
  at_group false below m is e = let c : TooDeep ≡ cause = cc in subst (Why s token) c (deep m is (ltb-false (length s.frames) 16 below))

  at_args_end : (k : Kind) → token.kind ≡ k → s.mode ≡ ArgsEnd → Fails (behind_args 16 k s token) cause → Why s token cause
  at_args_end kind.LeftBrace is m e = at_group (nat_lt (length s.frames) 16) refl m is e
  at_args_end _ is m e = plain token.kind refl (ap is_start m) (λ limit. ap (λ mode. step_in limit mode s token) m ∙ ap (λ k. behind_args limit k s token) is ∙ e) (body_no token.kind (settled s) token cause e)

  why_in : (mode : Mode) → s.mode ≡ mode → Fails (step_in 16 mode s token) cause → Why s token cause
  why_in Start is e = at_library (is_library token) is e
  why_in ArgsEnd is e = at_args_end token.kind refl is e
  why_in LibraryName is e = plain token.kind refl (ap is_start is) (λ limit. ap (λ m. step_in limit m s token) is ∙ e) (library_no token.kind s token cause e)
  why_in LibraryArgs is e = plain token.kind refl (ap is_start is) (λ limit. ap (λ m. step_in limit m s token) is ∙ e) (args_no token.kind LibraryArgs LibraryBody s token cause e)
  why_in LibraryBody is e = plain token.kind refl (ap is_start is) (λ limit. ap (λ m. step_in limit m s token) is ∙ e) (opening_no token.kind s token cause e)
  why_in Body is e = plain token.kind refl (ap is_start is) (λ limit. ap (λ m. step_in limit m s token) is ∙ e) (body_no token.kind s token cause e)
  why_in Name is e = plain token.kind refl (ap is_start is) (λ limit. ap (λ m. step_in limit m s token) is ∙ e) (behind_name_no token.kind s token cause e)
  why_in Colon is e = plain token.kind refl (ap is_start is) (λ limit. ap (λ m. step_in limit m s token) is ∙ e) (value_no (is_piece token.kind) s token cause e)
  why_in Value is e = plain token.kind refl (ap is_start is) (λ limit. ap (λ m. step_in limit m s token) is ∙ e) (more_no (goes_on_with token) s token cause e)
  why_in Args is e = plain token.kind refl (ap is_start is) (λ limit. ap (λ m. step_in limit m s token) is ∙ e) (args_no token.kind Args ArgsEnd s token cause e)
  why_in End is e = plain token.kind refl (ap is_start is) (λ limit. ap (λ m. step_in limit m s token) is ∙ e) (end_no token.kind s token cause e)

  pub why : step_in 16 s.mode s token ≡ Err cause → Why s token cause
  why e = why_in s.mode refl e

-- at the end of the file there is one cause
pub end_cause : (mode : Mode) (frames : List Frame) (cause : Cause) → finish_in mode frames ≡ Err cause → cause ≡ EndInside
end_cause End frames cause e = absurd (cc)
end_cause _ frames cause e = cc
