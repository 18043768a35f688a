-- The inputs of a design are read, and its flat netlist is made of them.
use Rattle.std.specs.Prelude.{◌≡◌, ℕ, zero, suc, ◌+◌, ◌⊎◌, List, map, slice_get, Option, Some, Result, Ok, Err}
use Rattle.edge_io.specs.Counts.{Rose, RoseBy}
use Rattle.edge_io.specs.Holding.{Held, TellsMissing}
use Rattle.cell_models.specs.NamedSets.{NamedCells}
use Rattle.liberty_groups.specs.Groups.{Group}
use Rattle.liberty_groups.specs.Tables.{tree_of}
use Rattle.netlist_link.specs.FlatNetlist.{FlatNetlist}
use Rattle.verilog_netlist.specs.NetModules.{NetModule}
use Rattle.verdict_phases.specs.Phases.{Stop, RefusedBy, Step, Go, Halt}
use Rattle.design_phases.specs.CellPhase.{ModelsCells}
use Rattle.refusals.specs.InputFiles.{ReadsInput}
use Rattle.design_phases.specs.LibraryReading.{library_key, ReadsLibraries}
use Rattle.design_phases.specs.LinkPhase.{LinksDesign}
use Rattle.design_phases.specs.NetlistPhase.{ParsesNetlist}
use Rattle.design_phases.specs.UsePhase.{UsesCells}
use Rattle.design_phases.specs.declared.design_reading.Inputs.{Inputs}
use Rattle.refusals.specs.declared.refusal.FileKey.{FileKey}
use Rattle.refusals.specs.declared.refusal.FileKey.TheVariants.{Netlist}
use Rattle.refusals.specs.declared.refusal.Refusal.{Refusal}

-- the file of the netlist is read
abbrev pub ReadsNetlistFile : Option Held → List ℕ → Step Refusal FileKey (List ℕ) → Type 0
ReadsNetlistFile held name step = ReadsInput held Netlist name step

-- what is read: the modules of a netlist, the names of the cells that its top uses, and a library for each corner
pub record ReadInputs : Type 0 where
  pub modules : List NetModule
  pub used : List (List ℕ)
  pub libraries : List Group

-- the same of what the code keeps
abbrev pub inputs_of : Inputs → ReadInputs
inputs_of inputs = record { modules = inputs.modules; used = inputs.used; libraries = map tree_of inputs.libraries }

-- a flat netlist, and the cells with which it is linked
pub record LinkedDesign : Type 0 where
  pub netlist : FlatNetlist
  pub cells : List NamedCells

-- The bytes of a netlist are read, then the cells that the module of this name uses, and then the libraries: no library is read where
-- the design cannot be walked through.
pub data ReadsInputs (held : Option Held) (corners : ℕ) (bytes top : List ℕ) (libraries : List (List ℕ))
    : Step Refusal FileKey ReadInputs → Type 0 where
  at_grammar : (refusal : Refusal) → ParsesNetlist bytes (Err refusal)
      → ReadsInputs held corners bytes top libraries (Halt (RefusedBy refusal))
  at_uses : (modules : List NetModule) (refusal : Refusal) → ParsesNetlist bytes (Ok modules) → UsesCells modules top (Err refusal)
      → ReadsInputs held corners bytes top libraries (Halt (RefusedBy refusal))
  at_libraries : (modules : List NetModule) (used : List (List ℕ)) (why : Stop Refusal FileKey) → ParsesNetlist bytes (Ok modules)
      → UsesCells modules top (Ok used) → ReadsLibraries held corners libraries (Halt why)
      → ReadsInputs held corners bytes top libraries (Halt why)
  with_inputs : (modules : List NetModule) (used : List (List ℕ)) (trees : List Group) → ParsesNetlist bytes (Ok modules)
      → UsesCells modules top (Ok used) → ReadsLibraries held corners libraries (Go trees)
      → ReadsInputs held corners bytes top libraries (Go (record { modules = modules; used = used; libraries = trees }))

-- the models of the used cells are made, and then the flat netlist
pub data LinksInputs (inputs : ReadInputs) (top : List ℕ) : Result LinkedDesign Refusal → Type 0 where
  at_models : (refusal : Refusal) → ModelsCells inputs.libraries inputs.used (Err refusal) → LinksInputs inputs top (Err refusal)
  at_link : (cells : List NamedCells) (refusal : Refusal) → ModelsCells inputs.libraries inputs.used (Ok cells)
      → LinksDesign inputs.modules top cells (Err refusal) → LinksInputs inputs top (Err refusal)
  with_netlist : (cells : List NamedCells) (netlist : FlatNetlist) → ModelsCells inputs.libraries inputs.used (Ok cells)
      → LinksDesign inputs.modules top cells (Ok netlist) → LinksInputs inputs top (Ok (record { netlist = netlist; cells = cells }))

-- the file of a netlist is read, then its inputs, and then they are linked
pub data ReadsDesign (held : Option Held) (corners : ℕ) (file top : List ℕ) (libraries : List (List ℕ))
    : Step Refusal FileKey LinkedDesign → Type 0 where
  at_netlist : (why : Stop Refusal FileKey) → ReadsNetlistFile held file (Halt why)
      → ReadsDesign held corners file top libraries (Halt why)
  at_inputs : (bytes : List ℕ) (why : Stop Refusal FileKey) → ReadsNetlistFile held file (Go bytes)
      → ReadsInputs held corners bytes top libraries (Halt why) → ReadsDesign held corners file top libraries (Halt why)
  at_design : (bytes : List ℕ) (inputs : ReadInputs) (refusal : Refusal) → ReadsNetlistFile held file (Go bytes)
      → ReadsInputs held corners bytes top libraries (Go inputs) → LinksInputs inputs top (Err refusal)
      → ReadsDesign held corners file top libraries (Halt (RefusedBy refusal))
  with_design : (bytes : List ℕ) (inputs : ReadInputs) (design : LinkedDesign) → ReadsNetlistFile held file (Go bytes)
      → ReadsInputs held corners bytes top libraries (Go inputs) → LinksInputs inputs top (Ok design)
      → ReadsDesign held corners file top libraries (Go design)

-- the same from the bytes of a netlist, whichever file has them
abbrev pub ReadsDesignOf : Option Held → ℕ → List ℕ → List ℕ → List (List ℕ) → Step Refusal FileKey LinkedDesign → Type 0
ReadsDesignOf held corners bytes top libraries step =
    (file : List ℕ) → ReadsNetlistFile held file (Go bytes) → ReadsDesign held corners file top libraries step

-- the key of a file, by how many are read before it: the netlist, and then the libraries in the order of the corners
abbrev pub input_key : ℕ → ℕ → FileKey
input_key corners zero = Netlist
input_key corners (suc corner) = library_key corners corner

-- A fault at one of these files has its cause: the count of faults rose, or the shelf tells that it does not hold the file. The files
-- up to this one were opened.
pub record IsInputFault (held : Option Held) (corners : ℕ) (files : List (List ℕ)) (faults faults' opens opens' : ℕ)
    (key : FileKey) : Type 0 where
  pub before : ℕ
  pub name : List ℕ
  pub named : slice_get files before ≡ Some name
  pub keyed : key ≡ input_key corners before
  pub cause : Rose faults faults' ⊎ TellsMissing held name
  pub opened : RoseBy (before + 1) opens opens'
