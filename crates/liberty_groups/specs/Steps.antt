-- What each token does, from its kind and its bytes, and the state behind that.
use Rattle.std.specs.Prelude.{ℕ, Bool, true, false, not, ◌||◌, ◌&&◌, List, [], ◌∷◌, Result, Ok, Err, codes}
use Rattle.std.specs.Str.{bytes_eq}
use Rattle.liberty_groups.specs.Grammar.{is_piece, is_word}
use Rattle.liberty_groups.specs.Modes.{State, to_mode, begun, with_part, with_piece, in_body, frame_of, closed, cause_of}
use Rattle.liberty_groups.specs.declared.scan.Kind.{Kind}
use Rattle.liberty_groups.specs.declared.scan.Kind.TheVariants as kind
use Rattle.liberty_groups.specs.declared.modes.Mode.{Mode}
use Rattle.liberty_groups.specs.declared.modes.Mode.TheVariants.{Start, LibraryName, LibraryArgs, LibraryBody, Body, Name, Colon, Value, Args, ArgsEnd, End}
use Rattle.liberty_groups.specs.declared.modes.Action.{Action}
use Rattle.liberty_groups.specs.declared.modes.Action.TheVariants.{Refuse, Go, Begin, Part, Piece, OpenLibrary, Open, Close}
use Rattle.liberty_groups.specs.declared.faults.Cause.{Cause}
use Rattle.liberty_groups.specs.declared.faults.Cause.TheVariants.{Unexpected, TooDeep, NotLibrary}

abbrev pub names_library : Kind → List ℕ → Bool
names_library k bytes = is_word k && bytes_eq bytes (codes "library")

abbrev pub names_statement : Kind → List ℕ → Bool
names_statement k bytes = is_word k && not (bytes_eq bytes (codes "include_file"))

abbrev pub refuses : Kind → Action
refuses k = Refuse (cause_of k Unexpected)

abbrev pub start_does : Kind → Bool → Action
start_does k true = Begin LibraryName
start_does k false = Refuse (cause_of k NotLibrary)

abbrev pub library_does : Kind → Action
library_does kind.LeftParen = Go LibraryArgs
library_does k = refuses k

abbrev pub args_does : Kind → Mode → Mode → Action
args_does kind.Word here behind = Part here
args_does kind.Quoted here behind = Part here
args_does kind.Comma here behind = Go here
args_does kind.RightParen here behind = Go behind
args_does k here behind = refuses k

abbrev pub opening_does : Kind → Action
opening_does kind.LeftBrace = OpenLibrary
opening_does k = refuses k

abbrev pub begin_if : Kind → Bool → Action
begin_if k true = Begin Name
begin_if k false = refuses k

abbrev pub body_does : Kind → Bool → Action
body_does kind.Semicolon names = Go Body
body_does kind.RightBrace names = Close
body_does k names = begin_if k names

abbrev pub name_does : Kind → Action
name_does kind.Colon = Go Colon
name_does kind.LeftParen = Go Args
name_does k = refuses k

abbrev pub value_does : Kind → Bool → Action
value_does k true = Piece
value_does k false = refuses k

abbrev pub open_unless : Bool → Action
open_unless true = Refuse TooDeep
open_unless false = Open

abbrev pub behind_args_does : Kind → Bool → Action
behind_args_does kind.LeftBrace deep = open_unless deep
behind_args_does k deep = refuses k

abbrev pub end_does : Kind → Action
end_does kind.Semicolon = Go End
end_does k = refuses k

-- what a token of this kind and of these bytes does, where no attribute has ended
abbrev pub does : Mode → Bool → Kind → List ℕ → Action
does Start deep k bytes = start_does k (names_library k bytes)
does LibraryName deep k bytes = library_does k
does LibraryArgs deep k bytes = args_does k LibraryArgs LibraryBody
does LibraryBody deep k bytes = opening_does k
does Body deep k bytes = body_does k (names_statement k bytes)
does Name deep k bytes = name_does k
does Colon deep k bytes = value_does k (is_piece k)
does Value deep k bytes = Piece
does Args deep k bytes = args_does k Args ArgsEnd
does ArgsEnd deep k bytes = behind_args_does k deep
does End deep k bytes = end_does k

abbrev pub is_left_brace : Kind → Bool
is_left_brace kind.LeftBrace = true
is_left_brace _ = false

-- whether a token shows that an attribute has ended
abbrev pub settles : Mode → Kind → Bool → Bool
settles Value k fresh = fresh || not (is_piece k)
settles ArgsEnd k fresh = not (is_left_brace k)
settles _ k fresh = false

-- the state behind a step of a token that says this
abbrev pub applied : Action → State → List ℕ → Result State Cause
applied (Refuse cause) s bytes = Err cause
applied (Go mode) s bytes = Ok (to_mode mode s)
applied (Begin mode) s bytes = Ok (begun mode bytes s)
applied (Part mode) s bytes = Ok (with_part mode bytes s)
applied Piece s bytes = Ok (with_piece bytes s)
applied OpenLibrary s bytes = Ok (in_body (frame_of s ∷ []))
applied Open s bytes = Ok (in_body (frame_of s ∷ s.frames))
applied Close s bytes = Ok (closed s.frames)
