-- The work of `wires` and of `lookup`.
use Rattle.std.proofs.Common.{ℕ, ◌+◌, ◌*◌, ◌≤◌, List, length, Ok, arith}
use Rattle.std.specs.Prelude.{Option}
use Rattle.edge_io.specs.Holding.{Held}
use Rattle.verdict_phases.specs.Phases.{Go}
use Rattle.liberty_groups.specs.Groups.{Group}
use Rattle.cell_models.specs.Cells.{TimedCell}
use Rattle.command_rows.specs.ArcRows.{arc_edges}
use Rattle.spef_nets.specs.Sections.{Corners}
use Rattle.design_phases.specs.LibraryPhases.{ParsesLibrary, ModelsCell}
use Rattle.wire_phases.specs.SpefWork.{TextWork, IsWithin}
use Rattle.command_rows.proofs.LookupTexts.{ReadsSoleLibrary}
use Rattle.command_rows.specs.RowsWork.{WiresWork, no_file, of_file, CellWork, no_model_yet, of_model, LookupWork, no_library, of_library}
use Rattle.wire_phases.specs.SpefPhases.{ReadsSpefFile}

pub no_file_work : {I : Type 0} (corners : Corners I) (held : Option Held) (name : List ℕ) (steps : ℕ) → IsWithin (WiresWork corners held name) steps steps
no_file_work corners held name steps = record { work = 0; given = no_file; bound = omega arith }

pub file_work : {I : Type 0} (corners : Corners I) (held : Option Held) (name bytes : List ℕ) (before after : ℕ) → ReadsSpefFile held name (Go bytes) → IsWithin (TextWork corners bytes) before after → IsWithin (WiresWork corners held name) before after
file_work corners held name bytes before after reads within = record { work = within.work; given = of_file bytes reads within.given; bound = within.bound }

pub no_cell_work : (corner : ℕ) (name bytes : List ℕ) (steps : ℕ) → IsWithin (CellWork corner name bytes) steps steps
no_cell_work corner name bytes steps = record { work = 0; given = no_model_yet; bound = omega arith }

pub cell_work : (corner : ℕ) (name bytes : List ℕ) (library : Group) (cell : TimedCell) (before after : ℕ) → ParsesLibrary corner bytes (Ok library)
    → ModelsCell corner library name (Ok cell) → after ≤ before + 64 * length (arc_edges cell.arcs) → IsWithin (CellWork corner name bytes) before after
cell_work corner name bytes library cell before after parses models bound =
    record { work = 64 * length (arc_edges cell.arcs); given = of_model library cell parses models; bound = bound }

pub no_lookup_work : (corners corner : ℕ) (held : Option Held) (file name : List ℕ) (steps : ℕ) → IsWithin (LookupWork corners corner held file name) steps steps
no_lookup_work corners corner held file name steps = record { work = 0; given = no_library; bound = omega arith }

pub lookup_work : (held : Option Held) (file name bytes : List ℕ) (before after : ℕ) → ReadsSoleLibrary held file (Go bytes)
    → IsWithin (CellWork 0 name bytes) before after → IsWithin (LookupWork 1 0 held file name) before after
lookup_work held file name bytes before after reads within =
    record { work = within.work; given = of_library bytes reads within.given; bound = within.bound }
