-- What has been read, from what the tokens add one after another.
use Rattle.std.specs.Prelude.{ℕ, Bool, List, [], ◌∷◌, ◌++◌}
use Rattle.liberty_groups.specs.Tokens.{Lexeme, said_by}
use Rattle.liberty_groups.specs.Modes.{Frame, add_attribute, closed, joined}
use Rattle.liberty_groups.specs.Groups.{no_group}
use Rattle.liberty_groups.specs.declared.scan.Kind.{Kind}
use Rattle.liberty_groups.specs.declared.events.Event.{Event}
use Rattle.liberty_groups.specs.declared.events.Event.TheVariants.{Part, Piece, Attribute, OpenLibrary, Open, Close}

-- the statement that has begun, and the groups that have not ended, the innermost first
pub record Built : Type 0 where
  pub name : List ℕ
  pub parts : List (List ℕ)
  pub frames : List Frame

abbrev pub nothing_built : Built
nothing_built = record { name = []; parts = []; frames = [] }

abbrev pub with_frames : List Frame → Built
with_frames frames = record { name = []; parts = []; frames = frames }

abbrev pub begun_frame : Built → Frame
begun_frame b = record { name = b.name; args = b.parts; attributes = []; groups = no_group }

-- a statement of this name begins
abbrev pub begun_as : List ℕ → Built → Built
begun_as name b = record { name = name; parts = []; frames = b.frames }

abbrev pub behind : Built → Event → Built
behind b (Part text) = record { name = b.name; parts = b.parts ++ text ∷ []; frames = b.frames }
behind b (Piece text) = record { name = b.name; parts = joined b.parts text; frames = b.frames }
behind b Attribute = with_frames (add_attribute b.name b.parts b.frames)
behind b OpenLibrary = with_frames (begun_frame b ∷ [])
behind b Open = with_frames (begun_frame b ∷ b.frames)
behind b Close = with_frames (closed b.frames).frames

-- a token of a kind and of some bytes
abbrev pub lexeme : Kind → List ℕ → Bool → ℕ → Lexeme
lexeme k bytes fresh start = record { kind = k; bytes = said_by k bytes; fresh = fresh; start = start }
