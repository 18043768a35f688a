-- What the linked inputs of a design keep: no two of its names are one, and its pins are small.
use Rattle.std.proofs.Common.{ℕ, ◌≤◌, List, [], ◌∷◌, get_or, Option, Ok, arith}
use Rattle.std.specs.Prelude.{All}
use Rattle.std.specs.List.{AllZip}
use Rattle.std.proofs.lemmas.List.Elements.{All-nil, All-cons}
use Rattle.std.proofs.lemmas.Option.{slice_get-get_or}
use Rattle.cell_models.specs.Cells.{TimedCell}
use Rattle.cell_models.specs.NamedSets.{NamedCells}
use Rattle.cell_models.specs.declared.cell.Direction.{Direction}
use Rattle.cell_models.specs.declared.cell.Direction.TheVariants.{Input, Output, Inout, Internal}
use Rattle.cell_models.specs.declared.cell.Pin.{Pin}
use Rattle.delay_units.specs.Bounds.{most_farads}
use Rattle.liberty_groups.specs.Groups.{Group}
use Rattle.timing_arcs.specs.PinModel.{PinEntry, IsPin, IsPinCapacitance}
use Rattle.net_parasitics.specs.Inputs.{AreNamedApart, HaveSmallPins}
use Rattle.net_parasitics.proofs.NamedApart.{named_apart}
use Rattle.edge_io.specs.Holding.{Held}
use Rattle.verdict_phases.specs.Phases.{Go}
use Rattle.design_phases.specs.CellPhase.{ModelsCorners, at_all, ModelsCells, all_cells}
use Rattle.design_phases.specs.DesignReading.{ReadInputs, LinkedDesign, LinksInputs, with_netlist, ReadsDesign, with_design}
use Rattle.design_phases.specs.LibraryPhases.{ModelsCell, has_model}
use Rattle.design_phases.specs.LinkPhase.{LinksDesign, is_linked}
use Rattle.netlist_link.specs.FlatNetlist.{FlatNetlist}
use Rattle.verilog_netlist.specs.NetModules.{NetModule}

abbrev IsSmallPin : Pin → Type 0
IsSmallPin pin = pin.cap.0 ≤ most_farads

abbrev IsSmallCell : TimedCell → Type 0
IsSmallCell cell = All IsSmallPin cell.pins

abbrev IsSmallSet : NamedCells → Type 0
IsSmallSet set = All IsSmallCell set.cells

-- a pin has at most the capacitance that its library may give it
small_cap : (direction : Direction) (library group : Group) (grains : ℕ) → IsPinCapacitance direction library group grains → grains ≤ most_farads
small_cap Input library group grains is = let within = is.given.within in omega (arith, within)
small_cap Output library group grains is = omega (arith, is)
small_cap Inout library group grains is = omega (arith, is)
small_cap Internal library group grains is = omega (arith, is)

small_pins : (library : Group) (entries : List PinEntry) (pins : List Pin) → AllZip (IsPin library) entries pins → All IsSmallPin pins
small_pins library [] [] are = All-nil IsSmallPin
small_pins library [] (pin ∷ pins) are = absurd are
small_pins library (entry ∷ entries) [] are = absurd are
small_pins library (entry ∷ entries) (pin ∷ pins) are =
    All-cons IsSmallPin pin pins (small_cap pin.direction library entry.group pin.cap.0 are.0.capacitance) (small_pins library entries pins are.1)

small_model : (corner : ℕ) (library : Group) (name : List ℕ) (cell : TimedCell) → ModelsCell corner library name (Ok cell) → IsSmallCell cell
small_model corner library name _ (has_model cell is) = small_pins library _ cell.pins is.pins

small_set : (libraries : List Group) (name : List ℕ) (cells : List TimedCell) → ModelsCorners libraries name (Ok cells) → All IsSmallCell cells
small_set libraries name _ (at_all cells first shape) k d below =
    let is = first.each k (get_or cells k d) (slice_get-get_or cells k d below) in
    small_model k is.library name (get_or cells k d) is.models

small_cells : (libraries : List Group) (used : List (List ℕ)) (sets : List NamedCells) → ModelsCells libraries used (Ok sets) → HaveSmallPins sets
small_cells libraries used _ (all_cells sets first) k d below =
    small_set libraries _ _ (first.each k (get_or sets k d) (slice_get-get_or sets k d below))

pub have_small_pins : (inputs : ReadInputs) (top : List ℕ) (design : LinkedDesign) → LinksInputs inputs top (Ok design) → HaveSmallPins design.cells
have_small_pins inputs top _ (with_netlist cells netlist models links) = small_cells inputs.libraries inputs.used cells models

linked_apart : (modules : List NetModule) (top : List ℕ) (cells : List NamedCells) (netlist : FlatNetlist) → LinksDesign modules top cells (Ok netlist) → AreNamedApart netlist
linked_apart modules top cells _ (is_linked netlist flat) = named_apart modules top cells netlist flat

pub are_named_apart : (inputs : ReadInputs) (top : List ℕ) (design : LinkedDesign) → LinksInputs inputs top (Ok design) → AreNamedApart design.netlist
are_named_apart inputs top _ (with_netlist cells netlist models links) = linked_apart inputs.modules top cells netlist links

-- and so do those that are read
pub read_small_pins : (held : Option Held) (corners : ℕ) (file top : List ℕ) (libraries : List (List ℕ)) (design : LinkedDesign) → ReadsDesign held corners file top libraries (Go design) → HaveSmallPins design.cells
read_small_pins held corners file top libraries _ (with_design bytes inputs design reads are links) = have_small_pins inputs top design links

pub read_apart : (held : Option Held) (corners : ℕ) (file top : List ℕ) (libraries : List (List ℕ)) (design : LinkedDesign) → ReadsDesign held corners file top libraries (Go design) → AreNamedApart design.netlist
read_apart held corners file top libraries _ (with_design bytes inputs design reads are links) = are_named_apart inputs top design links
