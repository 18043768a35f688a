-- What each token makes, by what is waited for. It is the grammar unrolled for the reader's loop; the proofs show that both say the same.
use Rattle.std.specs.Prelude.{ℕ, zero, suc, List, [], ◌∷◌, Option, Some, None, if◌then◌else◌}
use Rattle.sdf_reader.specs.Grammar.{is_divider, is_retain}
use Rattle.sdf_reader.specs.Keywords.{keyword_of}
use Rattle.sdf_reader.specs.ScalePlaces.{place_behind}
use Rattle.sdf_reader.specs.declared.scan.Kind.{Kind}
use Rattle.sdf_reader.specs.declared.scan.Kind.TheVariants as kind
use Rattle.sdf_reader.specs.declared.words.Keyword.TheVariants as key
use Rattle.sdf_reader.specs.declared.ends.SdfCause.{SdfCause}
use Rattle.sdf_reader.specs.declared.ends.SdfCause.TheVariants as cause
use Rattle.sdf_reader.specs.declared.timescales.ScalePlace.{ScalePlace}
use Rattle.sdf_reader.specs.declared.timescales.ScalePlace.TheVariants as place
use Rattle.sdf_reader.specs.declared.modes.Shape.{Shape}
use Rattle.sdf_reader.specs.declared.modes.Shape.TheVariants as shape
use Rattle.sdf_reader.specs.declared.modes.Site.{Site}
use Rattle.sdf_reader.specs.declared.modes.Site.TheVariants as site
use Rattle.sdf_reader.specs.declared.modes.Mode.{Mode}
use Rattle.sdf_reader.specs.declared.modes.Mode.TheVariants as mode
use Rattle.sdf_reader.specs.Classes.{Class}
use Rattle.sdf_reader.specs.Classes as class
use Rattle.sdf_reader.specs.declared.modes.Action.{Action}
use Rattle.sdf_reader.specs.declared.modes.Action.TheVariants as action

-- what a token is to the grammar
abbrev pub class_of : Kind → List ℕ → Class
class_of kind.LeftParen bytes = class.Open
class_of kind.RightParen bytes = class.Close
class_of kind.Quoted bytes = class.Text
class_of kind.Word bytes = class.Word (keyword_of bytes)
class_of _ bytes = class.Broken

-- why a token of this kind is refused, where it cannot stand
abbrev pub cause_of : Kind → SdfCause
cause_of kind.Bad = cause.BadByte
cause_of kind.OpenQuoted = cause.OpenText
cause_of kind.OpenNote = cause.OpenComment
cause_of _ = cause.Unexpected

-- what is waited for behind a token, and what is done with it: none where it cannot stand
abbrev pub Move : Type 0
Move = Option (Mode × Action)

abbrev pub go : Mode → Move
go mode = Some (mode, action.Nothing)

-- a form is passed over, in which so many others are open
abbrev pub pass : Site → ℕ → Move
pass at depth = go (mode.Over at depth)

abbrev pub divide_by : List ℕ → Move
divide_by [] = None
divide_by (byte ∷ []) = if is_divider byte then Some (mode.HeadEnd, action.Divide byte) else None
divide_by (byte ∷ next ∷ rest) = None

-- behind the first word of a timescale, and behind its last
abbrev pub scale_from : Option ScalePlace → Move
scale_from None = None
scale_from (Some place) = go (mode.ScaleMore place)

abbrev pub scale_at : Mode → Option ScalePlace → Move
scale_at behind (Some (place.Done scale)) = Some (behind, action.Rescale scale)
scale_at behind _ = None

-- in the place of a name a `(` shows that an IOPATH is passed over
abbrev pub stray_name : Shape → Move
stray_name shape.Path = pass site.Entries 1
stray_name shape.Wire = None

-- what is waited for behind a form that was passed over
abbrev pub site_mode : Site → Mode
site_mode site.Heads = mode.Heads
site_mode site.Specs = mode.Specs
site_mode site.Delays = mode.Delays
site_mode site.Entries = mode.Entries

-- a `)` in a form that is passed over ends one of the others, or that form
abbrev pub closes : Site → ℕ → Move
closes at zero = go (site_mode at)
closes at (suc depth) = pass at depth

-- how many forms are open in the one that is passed over
abbrev pub depth_of : Mode → ℕ
depth_of (mode.Over at depth) = depth
depth_of _ = 0

-- what a token of this class and of these bytes makes
abbrev pub next_of : Mode → Class → List ℕ → Move
next_of mode.Start class.Open bytes = go mode.FileWord
next_of mode.FileWord (class.Word (Some key.DelayFile)) bytes = go mode.Heads
next_of mode.Heads class.Open bytes = go mode.HeadWord
next_of mode.Heads class.Close bytes = go mode.End
next_of mode.HeadWord (class.Word (Some key.Design)) bytes = go mode.DesignText
next_of mode.HeadWord (class.Word (Some key.Divider)) bytes = go mode.DividerWord
next_of mode.HeadWord (class.Word (Some key.Timescale)) bytes = go mode.ScaleWord
next_of mode.HeadWord (class.Word (Some key.Cell)) bytes = go mode.TypeOpen
next_of mode.HeadWord (class.Word _) bytes = pass site.Heads 0
next_of mode.DesignText class.Text bytes = go mode.HeadEnd
next_of mode.DesignText class.Close bytes = go mode.Heads
next_of mode.DividerWord (class.Word _) bytes = divide_by bytes
next_of mode.ScaleWord (class.Word _) bytes = scale_from (place_behind place.Start bytes)
next_of (mode.ScaleMore at) class.Close bytes = scale_at mode.Heads (Some at)
next_of (mode.ScaleMore at) (class.Word _) bytes = scale_at mode.HeadEnd (place_behind at bytes)
next_of mode.HeadEnd class.Close bytes = go mode.Heads
next_of mode.TypeOpen class.Open bytes = go mode.TypeWord
next_of mode.TypeWord (class.Word (Some key.CellType)) bytes = go mode.TypeText
next_of mode.TypeText class.Text bytes = Some (mode.TypeEnd, action.SetType)
next_of mode.TypeEnd class.Close bytes = go mode.InstanceOpen
next_of mode.InstanceOpen class.Open bytes = go mode.InstanceWord
next_of mode.InstanceWord (class.Word (Some key.Instance)) bytes = go mode.InstanceName
next_of mode.InstanceName (class.Word _) bytes = Some (mode.InstanceEnd, action.Instance)
next_of mode.InstanceName class.Close bytes = Some (mode.Specs, action.NoInstance)
next_of mode.InstanceEnd class.Close bytes = go mode.Specs
next_of mode.Specs class.Open bytes = go mode.SpecWord
next_of mode.Specs class.Close bytes = go mode.Cells
next_of mode.SpecWord (class.Word (Some key.Delay)) bytes = go mode.Delays
next_of mode.SpecWord (class.Word (Some key.Absolute)) bytes = None
next_of mode.SpecWord (class.Word _) bytes = pass site.Specs 0
next_of mode.Delays class.Open bytes = go mode.DelayWord
next_of mode.Delays class.Close bytes = go mode.Specs
next_of mode.DelayWord (class.Word (Some key.Absolute)) bytes = go mode.Entries
next_of mode.DelayWord (class.Word (Some key.Delay)) bytes = None
next_of mode.DelayWord (class.Word _) bytes = pass site.Delays 0
next_of mode.Entries class.Open bytes = go mode.EntryWord
next_of mode.Entries class.Close bytes = go mode.Delays
next_of mode.EntryWord (class.Word (Some key.IoPath)) bytes = Some (mode.From shape.Path, action.Begin)
next_of mode.EntryWord (class.Word (Some key.Interconnect)) bytes = Some (mode.From shape.Wire, action.Begin)
next_of mode.EntryWord (class.Word _) bytes = pass site.Entries 0
next_of (mode.From s) (class.Word _) bytes = Some (mode.To s, action.From)
next_of (mode.From s) class.Open bytes = stray_name s
next_of (mode.To s) (class.Word _) bytes = Some (mode.FirstValue s, action.To)
next_of (mode.To s) class.Open bytes = stray_name s
next_of (mode.FirstValue s) class.Open bytes = go (mode.Number s)
next_of (mode.Number s) class.Close bytes = Some (mode.Values s, action.Empty)
next_of (mode.Number s) class.Open bytes = pass site.Entries 2
next_of (mode.Number s) (class.Word found) bytes = if is_retain s found then pass site.Entries 1 else Some (mode.NumberEnd s, action.Number)
next_of (mode.NumberEnd s) class.Close bytes = go (mode.Values s)
next_of (mode.NumberEnd s) class.Open bytes = pass site.Entries 2
next_of (mode.Values s) class.Open bytes = go (mode.Number s)
next_of (mode.Values s) class.Close bytes = Some (mode.Entries, action.Row s)
next_of (mode.Over at depth) (class.Word _) bytes = pass at depth
next_of (mode.Over at depth) class.Text bytes = pass at depth
next_of (mode.Over at depth) class.Open bytes = pass at (suc depth)
next_of (mode.Over at depth) class.Close bytes = closes at depth
next_of mode.Cells class.Open bytes = go mode.CellWord
next_of mode.Cells class.Close bytes = go mode.End
next_of mode.CellWord (class.Word (Some key.Cell)) bytes = go mode.TypeOpen
next_of _ _ bytes = None
