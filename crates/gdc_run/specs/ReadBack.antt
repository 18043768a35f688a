-- What is written as SDF is read back.
use Rattle.std.specs.Prelude.{◌≡◌, ℕ, false, List, Option, All}
use Rattle.edge_io.specs.Holding.{Held}
use Rattle.name_table.specs.WellSpelled.{IsWellSpelled}
use Rattle.sdf_read_back.specs.Names.{begins_comment}
use Rattle.sdf_read_back.specs.ReadBack.{AreFit}
use Rattle.sdf_read_back.specs.Rows.{read_back_rows}
use Rattle.sdf_reader.specs.Answers.{SaysRows}
use Rattle.sdf_reader.specs.declared.rows.SdfRow.{SdfRow}
use Rattle.sdf_writer.specs.SdfText.{WireRow, SdfRows, sdf_text}
use Rattle.verdict_phases.specs.Phases.{Go}
use Rattle.gdc_words.specs.declared.commands.Command.{Command}
use Rattle.gdc_words.specs.declared.commands.Command.TheVariants.{Wires, Calc, Show, Lookup, Flat, Trial, Help, Version}
use Rattle.gdc_run.specs.Verdict.{Gives, Answers}
use Rattle.gdc_run.specs.declared.output.Output.{Output}
use Rattle.gdc_run.specs.declared.output.Output.TheVariants as output

-- neither name of the row begins with `//`, which begins a comment in SDF
pub record HasNoComment (row : WireRow) : Type 0 where
  pub from : begins_comment row.from ≡ false
  pub to : begins_comment row.to ≡ false

-- the grammar of SDF (IEEE 1497-2001) relates the text of these rows to the rows that are read back, and to no others
pub record IsReadBack (rows : SdfRows) : Type 0 where
  pub says : SaysRows (sdf_text rows) (read_back_rows rows)
  pub only : (others : List SdfRow) → SaysRows (sdf_text rows) others → others ≡ read_back_rows rows

-- a fact of the number of corners and of the rows that are written as SDF
abbrev pub IfSdf : Output → (ℕ → SdfRows → Type 0) → Type 0
IfSdf (output.Sdf rows) fact = fact 1 rows
IfSdf (output.SdfOfCorners rows) fact = fact 3 rows
IfSdf (output.Listing rows) fact = Unit {0}
IfSdf (output.Summary rows) fact = Unit {0}
IfSdf (output.Arcs rows) fact = Unit {0}
IfSdf (output.Flat design) fact = Unit {0}
IfSdf output.Help fact = Unit {0}
IfSdf output.Version fact = Unit {0}

-- what the rows of `calc` are: each name in them is well spelled, and each has a time for each corner, of a size that is printed
abbrev pub IsFitFor : Command → Output → Type 0
IsFitFor Wires made = Unit {0}
IsFitFor Calc made = IfSdf made (AreFit IsWellSpelled)
IsFitFor Show made = Unit {0}
IsFitFor Lookup made = Unit {0}
IsFitFor Flat made = Unit {0}
IsFitFor Trial made = Unit {0}
IsFitFor Help made = Unit {0}
IsFitFor Version made = Unit {0}

-- The rows that `calc` writes are read back; so are those of `wires`, if no name of them begins a comment. Nothing is said of other
-- commands.
abbrev pub IsReadable : Command → Output → Type 0
IsReadable Wires made = IfSdf made (λ corners rows. All HasNoComment rows.wires → IsReadBack rows)
IsReadable Calc made = IfSdf made (λ corners rows. IsReadBack rows)
IsReadable Show made = Unit {0}
IsReadable Lookup made = Unit {0}
IsReadable Flat made = Unit {0}
IsReadable Trial made = Unit {0}
IsReadable Help made = Unit {0}
IsReadable Version made = Unit {0}

-- every output that the verdict gives is readable, if it is fit for its command
abbrev pub IsAlwaysReadable : Type 0
IsAlwaysReadable = (words : List (List ℕ)) (held : Option Held) (made : Output) → (given : Gives words held (Answers (Go made)))
    → IsFitFor given.0.command made → IsReadable given.0.command made
