-- What the commands `wires`, `show`, `lookup` and `flat` give of their files.
use Rattle.std.specs.Prelude.{ℕ, List, [], ◌∷◌, Option, Result, Ok, Err}
use Rattle.edge_io.specs.Holding.{Held}
use Rattle.sdf_writer.specs.SdfText.{SdfRows}
use Rattle.sdf_reader.specs.Answers.{SaysRows}
use Rattle.sdf_reader.specs.Causes.{IsFault}
use Rattle.sdf_reader.specs.declared.ends.SdfCause.{SdfCause}
use Rattle.sdf_reader.specs.declared.rows.SdfRow.{SdfRow}
use Rattle.verdict_phases.specs.Phases.{Stop, RefusedBy, Step, Go, Halt}
use Rattle.refusals.specs.declared.refusal.FileKey.{FileKey}
use Rattle.refusals.specs.declared.refusal.FileKey.TheVariants.{Sdf}
use Rattle.refusals.specs.declared.refusal.Refusal.{Refusal}
use Rattle.refusals.specs.declared.refusal.Refusal.TheVariants.{SdfSyntax}
use Rattle.design_phases.specs.DesignReading.{LinkedDesign, ReadsDesign}
use Rattle.refusals.specs.InputFiles.{ReadsInput}
use Rattle.wire_phases.specs.SpefPhases.{DesignNets, ReadsNets, ReadsSpefFile}
use Rattle.liberty_groups.specs.Groups.{Group}
use Rattle.corner_set.specs.declared.choices.Beyond.{Beyond}
use Rattle.spef_nets.specs.Sections.{Corners}
use Rattle.cell_models.specs.Cells.{TimedCell}
use Rattle.command_rows.specs.ArcRows.{CellGives}
use Rattle.design_phases.specs.LibraryPhases.{ParsesLibrary, ModelsCell}
use Rattle.design_phases.specs.LibraryReading.{library_key}
use Rattle.command_rows.specs.declared.arc_rows.ArcRow.{ArcRow}
use Rattle.wire_phases.specs.WireNets.{RowsOf}

-- the phase that reads the SDF file
abbrev pub ReadsSdf : Option Held → List ℕ → Step Refusal FileKey (List ℕ) → Type 0
ReadsSdf held name step = ReadsInput held Sdf name step

-- `wires`: the SPEF file is read, then its nets at these corners, in its order, and each gives its rows
pub data WiresGives {I : Type 0} (corners : Corners I) (held : Option Held) (name : List ℕ) : Step Refusal FileKey SdfRows → Type 0 where
  at_reading : (why : Stop Refusal FileKey) → ReadsSpefFile held name (Halt why) → WiresGives corners held name (Halt why)
  at_spef : (bytes : List ℕ) (refusal : Refusal) → ReadsSpefFile held name (Go bytes) → ReadsNets corners bytes (Err refusal)
      → WiresGives corners held name (Halt (RefusedBy refusal))
  at_nets : (bytes : List ℕ) (design : DesignNets) (refusal : Refusal) → ReadsSpefFile held name (Go bytes)
      → ReadsNets corners bytes (Ok design) → RowsOf corners.count design (Err refusal)
      → WiresGives corners held name (Halt (RefusedBy refusal))
  with_rows : (bytes : List ℕ) (design : DesignNets) (rows : SdfRows) → ReadsSpefFile held name (Go bytes)
      → ReadsNets corners bytes (Ok design) → RowsOf corners.count design (Ok rows) → WiresGives corners held name (Go rows)

-- the bytes are an SDF file (IEEE 1497), which says these rows, or its dead token is this one
pub data ParsesSdf (bytes : List ℕ) : Result (List SdfRow) Refusal → Type 0 where
  is_sdf_file : (rows : List SdfRow) → SaysRows bytes rows → ParsesSdf bytes (Ok rows)
  is_no_sdf_file : (token : ℕ) (cause : SdfCause) → IsFault bytes token cause → ParsesSdf bytes (Err (SdfSyntax token))

-- `show`: the SDF file is read, and then its grammar
pub data ShowGives (held : Option Held) (name : List ℕ) : Step Refusal FileKey (List SdfRow) → Type 0 where
  at_sdf_reading : (why : Stop Refusal FileKey) → ReadsSdf held name (Halt why) → ShowGives held name (Halt why)
  at_sdf : (bytes : List ℕ) (refusal : Refusal) → ReadsSdf held name (Go bytes) → ParsesSdf bytes (Err refusal)
      → ShowGives held name (Halt (RefusedBy refusal))
  with_sdf_rows : (bytes : List ℕ) (rows : List SdfRow) → ReadsSdf held name (Go bytes) → ParsesSdf bytes (Ok rows)
      → ShowGives held name (Go rows)

-- the phase that reads the library of a corner, in a run with so many corners
abbrev pub ReadsLib : ℕ → ℕ → Option Held → List ℕ → Step Refusal FileKey (List ℕ) → Type 0
ReadsLib corners corner held name step = ReadsInput held (library_key corners corner) name step

-- what the bytes of the library of a corner say of the cell of a name at a slew and a load: its grammar is read, then the model of the
-- cell, and then each of its tables is looked up
pub data ReadsArcs (corner : ℕ) (name : List ℕ) (slew load : ℕ) (beyond : Beyond) (bytes : List ℕ)
    : Result (List ArcRow) Refusal → Type 0 where
  at_library : (refusal : Refusal) → ParsesLibrary corner bytes (Err refusal) → ReadsArcs corner name slew load beyond bytes (Err refusal)
  at_cell : (library : Group) (refusal : Refusal) → ParsesLibrary corner bytes (Ok library) → ModelsCell corner library name (Err refusal)
      → ReadsArcs corner name slew load beyond bytes (Err refusal)
  of_cell : (library : Group) (cell : TimedCell) (answer : Result (List ArcRow) Refusal) → ParsesLibrary corner bytes (Ok library)
      → ModelsCell corner library name (Ok cell) → CellGives corner name cell slew load beyond answer
      → ReadsArcs corner name slew load beyond bytes answer

-- `lookup` at a corner, in a run with so many corners: the library of the corner is read, and then what it says of the cell
pub data LookupGives (corners corner : ℕ) (held : Option Held) (file name : List ℕ) (slew load : ℕ) (beyond : Beyond)
    : Step Refusal FileKey (List ArcRow) → Type 0 where
  at_library_reading : (why : Stop Refusal FileKey) → ReadsLib corners corner held file (Halt why)
      → LookupGives corners corner held file name slew load beyond (Halt why)
  at_arcs : (bytes : List ℕ) (refusal : Refusal) → ReadsLib corners corner held file (Go bytes)
      → ReadsArcs corner name slew load beyond bytes (Err refusal)
      → LookupGives corners corner held file name slew load beyond (Halt (RefusedBy refusal))
  with_arc_rows : (bytes : List ℕ) (rows : List ArcRow) → ReadsLib corners corner held file (Go bytes)
      → ReadsArcs corner name slew load beyond bytes (Ok rows) → LookupGives corners corner held file name slew load beyond (Go rows)

-- `flat`: the netlist is read, then the cells that its top uses, then the library, and then the flat netlist is made
abbrev pub FlatGives : Option Held → List ℕ → List ℕ → List ℕ → Step Refusal FileKey LinkedDesign → Type 0
FlatGives held netlist top library step = ReadsDesign held 1 netlist top (library ∷ []) step
