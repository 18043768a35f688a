-- Tokens that complete a file from each state of the reader.
use Rattle.std.proofs.Common.{◌≡◌, ℕ, ◌+◌, false, List, [], ◌∷◌, Ok, refl}
use Rattle.std.specs.Prelude.{codes}
use Rattle.std.specs.List.{AllByRecursion}
use Rattle.token_fronts.specs.Machine.{outcome}
use Rattle.token_fronts.specs.Stopping.{Completes}
use Rattle.liberty_groups.specs.Tokens.{Lexeme, IsToken, is_token, cut_at, word_length}
use Rattle.liberty_groups.specs.Groups.{Group}
use Rattle.liberty_groups.specs.Modes.{Frame, State, add_attribute, add_group, group_of, closed, next, finish}
use Rattle.liberty_groups.specs.declared.scan.Kind.{Kind}
use Rattle.liberty_groups.specs.declared.scan.Kind.TheVariants as kind
use Rattle.liberty_groups.specs.declared.modes.Mode.{Mode}
use Rattle.liberty_groups.specs.declared.modes.Mode.TheVariants.{Start, LibraryName, LibraryArgs, LibraryBody, Body, Name, Colon, Value, Args, ArgsEnd, End}

abbrev lexeme : Kind → List ℕ → Lexeme
lexeme k bytes = record { kind = k; bytes = bytes; fresh = false; start = 0 }

abbrev begins : Lexeme
begins = lexeme kind.LeftParen []

abbrev ends : Lexeme
ends = lexeme kind.RightParen []

abbrev opens : Lexeme
opens = lexeme kind.LeftBrace []

abbrev closes : Lexeme
closes = lexeme kind.RightBrace []

abbrev library : Lexeme
library = lexeme kind.Word (codes "library")

abbrev word : Lexeme
word = lexeme kind.Word (codes "a")

begins_is : IsToken begins
unfolding cut_at
begins_is = is_token 40 [] refl refl refl

ends_is : IsToken ends
unfolding cut_at
ends_is = is_token 41 [] refl refl refl

opens_is : IsToken opens
unfolding cut_at
opens_is = is_token 123 [] refl refl refl

closes_is : IsToken closes
unfolding cut_at
closes_is = is_token 125 [] refl refl refl

library_is : IsToken library
unfolding cut_at word_length
library_is = is_token 108 (codes "ibrary") refl refl refl

word_is : IsToken word
unfolding cut_at word_length
word_is = is_token 97 [] refl refl refl

-- the `}` of the outer groups
outer_ends : List Frame → List Lexeme
outer_ends [] = []
outer_ends (frame ∷ more) = closes ∷ outer_ends more

abbrev rest_of : List Frame → List Lexeme
rest_of [] = []
rest_of (frame ∷ outer) = outer_ends outer

outer_ends_are : (outer : List Frame) → AllByRecursion IsToken (outer_ends outer)
unfolding outer_ends
outer_ends_are [] = tt
outer_ends_are (frame ∷ more) = (closes_is, outer_ends_are more)

rest_is : (frames : List Frame) → AllByRecursion IsToken (rest_of frames)
rest_is [] = tt
rest_is (frame ∷ outer) = outer_ends_are outer

module _ (limit : ℕ) where
  -- behind the `}` of a group, those of the outer groups end the file
  abbrev Ends : State → ℕ → List Lexeme → Type 0
  Ends state number more = (value : Group) × (outcome (next limit) finish state number more ≡ Ok value)

  ends_outer : (frame : Frame) (outer : List Frame) (number : ℕ) → Ends (closed (frame ∷ outer)) number (outer_ends outer)
  unfolding outer_ends
  ends_outer frame [] number = (group_of frame, refl)
  ends_outer frame (next ∷ more) number = ends_outer (add_group (group_of frame) next) more (number + 1)

  ends_all : (frames : List Frame) (number : ℕ) → Ends (closed frames) number (rest_of frames)
  ends_all [] number = (_, refl)
  ends_all (frame ∷ outer) number = ends_outer frame outer number

  rest_same : (name : List ℕ) (values : List (List ℕ)) (frames : List Frame) → rest_of (add_attribute name values frames) ≡ rest_of frames
  rest_same name values [] = refl
  rest_same name values (frame ∷ outer) = refl

  ends_settled : (name : List ℕ) (values : List (List ℕ)) (frames : List Frame) (number : ℕ) → Ends (closed (add_attribute name values frames)) number (rest_of frames)
  ends_settled name values [] number = (_, refl)
  ends_settled name values (frame ∷ outer) number = ends_outer _ outer number

  module _ (name : List ℕ) (parts : List (List ℕ)) (frames : List Frame) (number : ℕ) where
    abbrev at : Mode → State
    at mode = record { mode = mode; name = name; parts = parts; frames = frames }

    completed_by : (mode : Mode) (more : List Lexeme) → AllByRecursion IsToken more → Ends (at mode) number more → Completes IsToken (next limit) finish (at mode) number []
    completed_by mode more tokens ends = record { more = more; tokens = tokens; value = ends.0; made = ends.1 }

    completes : (mode : Mode) → Completes IsToken (next limit) finish (at mode) number []
    completes Start = completed_by Start (library ∷ begins ∷ ends ∷ opens ∷ closes ∷ []) (library_is, (begins_is, (ends_is, (opens_is, (closes_is, tt))))) (_, refl)
    completes LibraryName = completed_by LibraryName (begins ∷ ends ∷ opens ∷ closes ∷ []) (begins_is, (ends_is, (opens_is, (closes_is, tt)))) (_, refl)
    completes LibraryArgs = completed_by LibraryArgs (ends ∷ opens ∷ closes ∷ []) (ends_is, (opens_is, (closes_is, tt))) (_, refl)
    completes LibraryBody = completed_by LibraryBody (opens ∷ closes ∷ []) (opens_is, (closes_is, tt)) (_, refl)
    completes Body = completed_by Body (closes ∷ rest_of frames) (closes_is, rest_is frames) (ends_all frames (number + 1))
    completes Name = completed_by Name (begins ∷ ends ∷ closes ∷ rest_of frames) (begins_is, (ends_is, (closes_is, rest_is frames))) (ends_settled name parts frames (number + 1 + 1 + 1))
    completes Colon = completed_by Colon (word ∷ closes ∷ rest_of frames) (word_is, (closes_is, rest_is frames)) (ends_settled name _ frames (number + 1 + 1))
    completes Value = completed_by Value (closes ∷ rest_of frames) (closes_is, rest_is frames) (ends_settled name parts frames (number + 1))
    completes Args = completed_by Args (ends ∷ closes ∷ rest_of frames) (ends_is, (closes_is, rest_is frames)) (ends_settled name parts frames (number + 1 + 1))
    completes ArgsEnd = completed_by ArgsEnd (closes ∷ rest_of frames) (closes_is, rest_is frames) (ends_settled name parts frames (number + 1))
    completes End = completed_by End [] tt (_, refl)

  pub lives : (state : State) (number : ℕ) → Completes IsToken (next limit) finish state number []
  lives state number = completes state.name state.parts state.frames number state.mode
