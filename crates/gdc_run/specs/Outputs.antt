-- What a run writes.
use Rattle.std.specs.Prelude.{ℕ, List, ◌++◌}
use Rattle.sdf_writer.specs.SdfText.{sdf_text}
use Rattle.sdf_reader.specs.declared.rows.SdfRow.{SdfRow}
use Rattle.sdf_reader.specs.Lines.{rows_text, summary_line}
use Rattle.gdc_words.specs.HelpText.{help_text, version_text}
use Rattle.gdc_run.specs.declared.output.Output.{Output}
use Rattle.gdc_run.specs.declared.output.Output.TheVariants.{Sdf, SdfOfCorners, Listing, Summary, Arcs, Flat, Help, Version}
use Rattle.command_rows.specs.ArcTexts.{arcs_text}
use Rattle.command_rows.specs.FlatText.{flat_text}

-- the lines of rows, and then their summary
abbrev pub listing_text : List SdfRow → List ℕ
listing_text rows = rows_text rows ++ summary_line rows

-- the text of what a run writes
abbrev pub output_text : Output → List ℕ
output_text (Sdf rows) = sdf_text rows
output_text (SdfOfCorners rows) = sdf_text rows
output_text (Listing rows) = listing_text rows
output_text (Summary rows) = summary_line rows
output_text (Arcs rows) = arcs_text rows
output_text (Flat design) = flat_text design
output_text Help = help_text
output_text Version = version_text
