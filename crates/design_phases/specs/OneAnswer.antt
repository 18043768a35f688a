-- That a phase has one answer.
use Rattle.std.specs.Prelude.{◌≡◌, ℕ, List, Result}
use Rattle.cell_models.specs.Cells.{TimedCell}
use Rattle.cell_models.specs.NamedSets.{NamedCells, set_names}
use Rattle.hierarchy.specs.UseLaws.{NamesDiffer}
use Rattle.liberty_groups.specs.Groups.{Group}
use Rattle.name_table.specs.Names.{AreDistinct}
use Rattle.netlist_link.specs.FlatNetlist.{FlatNetlist}
use Rattle.verilog_netlist.specs.NetModules.{NetModule}
use Rattle.design_phases.specs.CellPhase.{ModelsCells}
use Rattle.design_phases.specs.LibraryPhases.{ParsesLibrary, ModelsCell}
use Rattle.design_phases.specs.LinkPhase.{LinksDesign}
use Rattle.design_phases.specs.UsePhase.{UsesCells}
use Rattle.refusals.specs.declared.refusal.Refusal.{Refusal}
use Rattle.refusals.specs.SameAnswers.{SameAnswer}

-- the bytes of a library at a corner have one answer: a tree, or a refusal
abbrev pub OneLibrary : Type 0
OneLibrary = (corner : ℕ) (bytes : List ℕ) (one other : Result Group Refusal) → ParsesLibrary corner bytes one
    → ParsesLibrary corner bytes other → one ≡ other

-- the cell of a name in a library at a corner has one answer: a model, or a refusal
abbrev pub OneCell : Type 0
OneCell = (corner : ℕ) (library : Group) (name : List ℕ) (one other : Result TimedCell Refusal) → ModelsCell corner library name one
    → ModelsCell corner library name other → one ≡ other

-- the design of a module has one answer: the cells that it uses, or a refusal, in which one of the modules that contain themselves is named
abbrev pub OneUse : Type 0
OneUse = (modules : List NetModule) (top : List ℕ) (one other : Result (List (List ℕ)) Refusal) → NamesDiffer modules
    → UsesCells modules top one → UsesCells modules top other → SameAnswer one other

-- the cells that are used have one answer at some libraries: their models, or a refusal
abbrev pub OneModels : Type 0
OneModels = (libraries : List Group) (used : List (List ℕ)) (one other : Result (List NamedCells) Refusal)
    → ModelsCells libraries used one → ModelsCells libraries used other → one ≡ other

-- the design of a module has one answer over some cells: a flat netlist, or a refusal
abbrev pub OneLink : Type 0
OneLink = (modules : List NetModule) (top : List ℕ) (cells : List NamedCells) (one other : Result FlatNetlist Refusal) → NamesDiffer modules
    → AreDistinct (set_names cells) → LinksDesign modules top cells one → LinksDesign modules top cells other → one ≡ other
