-- A Liberty file taken one token at a time: what is waited for, and what each token then does. It is the grammar unrolled for the reader's
-- loop; the proofs show that both say the same.
use Rattle.std.specs.Prelude.{ℕ, Bool, true, false, nat_lt, List, [], ◌∷◌, ◌++◌, length, Result, Ok, Err}
use Rattle.token_fronts.specs.Tokens.{Token}
use Rattle.liberty_groups.specs.Tokens.{Lexeme}
use Rattle.liberty_groups.specs.Groups.{Attribute, Group, group, Groups, no_group, and_group}
use Rattle.liberty_groups.specs.Grammar.{goes_on_with, is_piece, is_name, is_library}
use Rattle.liberty_groups.specs.declared.scan.Kind.{Kind}
use Rattle.liberty_groups.specs.declared.scan.Kind.TheVariants as kind
use Rattle.liberty_groups.specs.declared.modes.Mode.{Mode}
use Rattle.liberty_groups.specs.declared.modes.Mode.TheVariants.{Start, LibraryName, LibraryArgs, LibraryBody, Body, Name, Colon, Value, Args, ArgsEnd, End}
use Rattle.liberty_groups.specs.declared.faults.Cause.{Cause}
use Rattle.liberty_groups.specs.declared.faults.Cause.TheVariants.{BadByte, OpenText, OpenComment, Unexpected, EndInside, TooDeep, NotLibrary}

-- a group whose body has not ended
pub record Frame : Type 0 where
  pub name : List ℕ
  pub args : List (List ℕ)
  pub attributes : List Attribute
  pub groups : Groups

abbrev pub group_of : Frame → Group
group_of frame = group frame.name frame.args frame.attributes frame.groups

-- what is waited for, the name and the arguments or the value of the statement that has begun, and the groups that have not ended, the
-- innermost first
pub record State : Type 0 where
  pub mode : Mode
  pub name : List ℕ
  pub parts : List (List ℕ)
  pub frames : List Frame

abbrev pub first_state : State
first_state = record { mode = Start; name = []; parts = []; frames = [] }

abbrev pub to_mode : Mode → State → State
to_mode mode s = record { mode = mode; name = s.name; parts = s.parts; frames = s.frames }

abbrev pub begun : Mode → List ℕ → State → State
begun mode name s = record { mode = mode; name = name; parts = []; frames = s.frames }

abbrev pub with_part : Mode → List ℕ → State → State
with_part mode part s = record { mode = mode; name = s.name; parts = s.parts ++ part ∷ []; frames = s.frames }

-- the value so far, and one more piece of it
abbrev pub joined : List (List ℕ) → List ℕ → List (List ℕ)
joined [] piece = piece ∷ []
joined (value ∷ none) piece = (value ++ 32 ∷ piece) ∷ []

abbrev pub with_piece : List ℕ → State → State
with_piece piece s = record { mode = Value; name = s.name; parts = joined s.parts piece; frames = s.frames }

abbrev pub frame_of : State → Frame
frame_of s = record { name = s.name; args = s.parts; attributes = []; groups = no_group }

abbrev pub add_attribute : List ℕ → List (List ℕ) → List Frame → List Frame
add_attribute name values [] = []
add_attribute name values (frame ∷ outer) =
    record {
      name = frame.name;
      args = frame.args;
      attributes = frame.attributes ++ record { name = name; values = values } ∷ [];
      groups = frame.groups;
    } ∷ outer

abbrev pub add_group : Group → Frame → Frame
add_group inner frame = record {
  name = frame.name;
  args = frame.args;
  attributes = frame.attributes;
  groups = and_group frame.groups inner;
}

-- where a statement may begin
abbrev pub in_body : List Frame → State
in_body frames = record { mode = Body; name = []; parts = []; frames = frames }

-- behind the library
abbrev pub at_end : List Frame → State
at_end frames = record { mode = End; name = []; parts = []; frames = frames }

-- the state behind an attribute
abbrev pub settled : State → State
settled s = in_body (add_attribute s.name s.parts s.frames)

-- the state behind the `}` of the innermost group
abbrev pub closed : List Frame → State
closed [] = at_end []
closed (frame ∷ []) = at_end (frame ∷ [])
closed (frame ∷ outer ∷ more) = in_body (add_group (group_of frame) outer ∷ more)

-- why a token of this kind is refused, where it cannot stand
abbrev pub cause_of : Kind → Cause → Cause
cause_of kind.Bad other = BadByte
cause_of kind.OpenQuoted other = OpenText
cause_of kind.OpenNote other = OpenComment
cause_of _ other = other

abbrev pub refused : Lexeme → Result State Cause
refused token = Err (cause_of token.kind Unexpected)

abbrev pub start_step : Bool → State → Lexeme → Result State Cause
start_step true s token = Ok (begun LibraryName token.bytes s)
start_step false s token = Err (cause_of token.kind NotLibrary)

abbrev pub args_step : Kind → Mode → Mode → State → Lexeme → Result State Cause
args_step kind.Word here behind s token = Ok (with_part here token.bytes s)
args_step kind.Quoted here behind s token = Ok (with_part here token.bytes s)
args_step kind.Comma here behind s token = Ok (to_mode here s)
args_step kind.RightParen here behind s token = Ok (to_mode behind s)
args_step _ here behind s token = refused token

abbrev pub library_step : Kind → State → Lexeme → Result State Cause
library_step kind.LeftParen s token = Ok (to_mode LibraryArgs s)
library_step _ s token = refused token

abbrev pub opening_step : Kind → State → Lexeme → Result State Cause
opening_step kind.LeftBrace s token = Ok (in_body (frame_of s ∷ []))
opening_step _ s token = refused token

abbrev pub name_step : Bool → State → Lexeme → Result State Cause
name_step true s token = Ok (begun Name token.bytes s)
name_step false s token = refused token

-- where a statement may begin
abbrev pub body_step : Kind → State → Lexeme → Result State Cause
body_step kind.Semicolon s token = Ok (to_mode Body s)
body_step kind.RightBrace s token = Ok (closed s.frames)
body_step _ s token = name_step (is_name token) s token

abbrev pub behind_name : Kind → State → Lexeme → Result State Cause
behind_name kind.Colon s token = Ok (to_mode Colon s)
behind_name kind.LeftParen s token = Ok (to_mode Args s)
behind_name _ s token = refused token

abbrev pub value_step : Bool → State → Lexeme → Result State Cause
value_step true s token = Ok (with_piece token.bytes s)
value_step false s token = refused token

abbrev pub more_step : Bool → State → Lexeme → Result State Cause
more_step true s token = Ok (with_piece token.bytes s)
more_step false s token = body_step token.kind (settled s) token

abbrev pub group_step : Bool → State → Lexeme → Result State Cause
group_step true s token = Ok (in_body (frame_of s ∷ s.frames))
group_step false s token = Err TooDeep

abbrev pub behind_args : ℕ → Kind → State → Lexeme → Result State Cause
behind_args limit kind.LeftBrace s token = group_step (nat_lt (length s.frames) limit) s token
behind_args limit _ s token = body_step token.kind (settled s) token

abbrev pub end_step : Kind → State → Lexeme → Result State Cause
end_step kind.Semicolon s token = Ok (to_mode End s)
end_step _ s token = refused token

-- what a token does in a mode
abbrev pub step_in : ℕ → Mode → State → Lexeme → Result State Cause
step_in limit Start s token = start_step (is_library token) s token
step_in limit LibraryName s token = library_step token.kind s token
step_in limit LibraryArgs s token = args_step token.kind LibraryArgs LibraryBody s token
step_in limit LibraryBody s token = opening_step token.kind s token
step_in limit Body s token = body_step token.kind s token
step_in limit Name s token = behind_name token.kind s token
step_in limit Colon s token = value_step (is_piece token.kind) s token
step_in limit Value s token = more_step (goes_on_with token) s token
step_in limit Args s token = args_step token.kind Args ArgsEnd s token
step_in limit ArgsEnd s token = behind_args limit token.kind s token
step_in limit End s token = end_step token.kind s token

abbrev pub next : ℕ → State → Token Lexeme → Result State Cause
next limit s token = step_in limit s.mode s token.text

abbrev pub root_of : List Frame → Group
root_of [] = group [] [] [] no_group
root_of (frame ∷ outer) = group_of frame

abbrev pub finish_in : Mode → List Frame → Result Group Cause
finish_in End frames = Ok (root_of frames)
finish_in _ frames = Err EndInside

abbrev pub finish : State → Result Group Cause
finish s = finish_in s.mode s.frames
