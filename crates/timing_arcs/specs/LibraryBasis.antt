-- What the tables of all cells of a library stand on.
use Rattle.std.specs.Prelude.{◌≡◌, ℕ, List, [], ◌++◌, map, Option, IfSome, IfNone, All, if◌then◌else◌}
use Rattle.std.specs.List.{AllZip}
use Rattle.liberty_groups.specs.Groups.{Group}
use Rattle.liberty_groups.specs.Tables.{Tables, tree_of}
use Rattle.liberty_tables.specs.LibraryUnits.{AreUnits}
use Rattle.timing_arcs.specs.PinModel.{PinEntry, IsCapacitance, default_texts}
use Rattle.timing_arcs.specs.DelayGroups.{is_delay_group, kind_of, ArcEntry, arcs_in, IsRise, IsFall, IsArc}
use Rattle.timing_arcs.specs.CellFaults.{Question, delay_questions, IsSound}
use Rattle.liberty_tables.specs.TemplateIndex.{AreTemplates}
use Rattle.timing_arcs.specs.DelayTables.{delay_names}
use Rattle.timing_arcs.specs.declared.library_basis.LibraryBasis.{LibraryBasis}
use Rattle.cell_models.specs.declared.cell.ArcKind.{ArcKind}
use Rattle.cell_models.specs.declared.cell.EdgeTables.{EdgeTables}
use Rattle.cell_models.specs.declared.cell.Arc.{Arc}
use Rattle.liberty_tables.specs.declared.faults.CellFault.{CellFault}
use Rattle.liberty_tables.specs.declared.faults.CellFault.TheVariants.{OutOfMemory}

-- its units, its templates by their names, and the capacitance of an input pin that has none of its own
pub record IsBasis (tree : Tables) (basis : LibraryBasis) : Type 0 where
  pub known : AreUnits (tree_of tree) basis.units
  pub named : basis.called ≡ delay_names
  pub indexed : AreTemplates tree basis.called basis.units basis.templates
  pub some : IfSome basis.default_cap (IsCapacitance basis.units.load (default_texts (tree_of tree)))
  pub none : IfNone basis.default_cap ((grains : ℕ) → ¬ IsCapacitance basis.units.load (default_texts (tree_of tree)) grains)

-- an arc of one kind and with the same tables from each place
abbrev pub arc_from : ArcKind → Option EdgeTables → Option EdgeTables → ℕ → ℕ → Arc
arc_from kind rise fall to from = record { from = from; to = to; kind = kind; rise = rise; fall = fall }

-- such arcs are added
abbrev pub AddsArcs : ArcKind → Option EdgeTables → Option EdgeTables → List ℕ → ℕ → List Arc → List Arc → Type 0
AddsArcs kind rise fall places to old new = new ≡ old ++ map (arc_from kind rise fall to) places

abbrev pub IsNoMemory : CellFault → Type 0
IsNoMemory fault = fault ≡ OutOfMemory

-- what the arcs of a delay group have in common
pub record IsTiming (library timing : Group) (kind : ArcKind) (rise fall : Option EdgeTables) : Type 0 where
  pub kind_is : kind ≡ kind_of timing
  pub rise_is : IsRise library timing rise
  pub fall_is : IsFall library timing fall

-- arcs are added that are those of some entries, and none of these questions has a fault
pub record AreAdded (library : Group) (names : List (List ℕ)) (entries : List ArcEntry) (questions : List Question)
    (old new : List Arc) : Type 0 where
  pub sound : All (IsSound library) questions
  pub arcs : (before : List ArcEntry) → AllZip (IsArc library names) before old → AllZip (IsArc library names) (before ++ entries) new

-- those of a group in a pin of a name
abbrev pub arcs_from : List PinEntry → List ℕ → Group → List ArcEntry
arcs_from pins name timing = if is_delay_group timing then arcs_in pins (record { to = name; group = timing }) else []

abbrev pub questions_from : List PinEntry → List ℕ → Group → List Question
questions_from pins name timing = if is_delay_group timing then delay_questions pins (record { to = name; group = timing }) else []
