-- How many steps the delays of a design take at the most.
use Rattle.std.specs.Prelude.{ℕ, ◌+◌, ◌*◌, List, length, Option, Ok}
use Rattle.edge_io.specs.Holding.{Held}
use Rattle.spef_nets.specs.NetElements.{NetElements}
use Rattle.spef_nets.specs.Sections.{Corners}
use Rattle.slew_states.specs.Settled.{arc_edges}
use Rattle.slew_order.specs.FlatArcs.{flat_arcs}
use Rattle.net_parasitics.specs.NetTrees.{NoneMissing}
use Rattle.net_parasitics.specs.WorkCounts.{NetsWork}
use Rattle.verdict_phases.specs.Phases.{Go}
use Rattle.design_phases.specs.DesignReading.{ReadsNetlistFile, ReadInputs, LinkedDesign, ReadsInputs, LinksInputs}
use Rattle.wire_phases.specs.SpefPhases.{DesignNets, ReadsNets, ReadsSpefFile}
use Rattle.delay_core.specs.DesignTiming.{net_inputs}
use Rattle.delay_core.specs.declared.settings.Files.{Files}
use Rattle.delay_core.specs.declared.settings.Settings.{Settings}

-- the pairs of an arc of an instance and an edge that it has
abbrev pub edges_of : LinkedDesign → ℕ
edges_of design = arc_edges (flat_arcs design.netlist design.cells)

-- The work of a design with these sections, at so many corners: none where a net is missing that is refused; else 16 steps for each
-- resistor, each capacitance to ground and each pin of a net with a driver and a sink, and 160 for each edge of an arc.
pub data TimingWork (count : ℕ) (design : LinkedDesign) (sections : List NetElements) (settings : Settings) : ℕ → Type 0 where
  no_trees : TimingWork count design sections settings 0
  of_nets : {trees : ℕ} → NoneMissing (net_inputs count design sections settings) settings.missing
      → NetsWork (net_inputs count design sections settings) (length design.netlist.nets) trees
      → TimingWork count design sections settings (trees + 160 * (count * edges_of design))

-- the work of a SPEF file's bytes: none before its sections are read, and then that of the design
pub data BytesWork {I : Type 0} (corners : Corners I) (design : LinkedDesign) (bytes : List ℕ) (settings : Settings) : ℕ → Type 0 where
  no_sections : BytesWork corners design bytes settings 0
  of_sections : {work : ℕ} (nets : DesignNets) → ReadsNets corners bytes (Ok nets)
      → TimingWork corners.count design nets.nets settings work → BytesWork corners design bytes settings work

-- the work of inputs: none before the SPEF file is read, and then that of its bytes
pub data InputsWork {I : Type 0} (held : Option Held) (corners : Corners I) (inputs : ReadInputs) (spef : List ℕ) (settings : Settings)
    : ℕ → Type 0 where
  no_design : InputsWork held corners inputs spef settings 0
  of_design : {work : ℕ} (design : LinkedDesign) (bytes : List ℕ) → LinksInputs inputs settings.top (Ok design)
      → ReadsSpefFile held spef (Go bytes) → BytesWork corners design bytes settings work
      → InputsWork held corners inputs spef settings work

-- the work of files: none before the inputs are read, and then theirs
pub data FilesWork {I : Type 0} (held : Option Held) (corners : Corners I) (files : Files) (settings : Settings) : ℕ → Type 0 where
  no_inputs : FilesWork held corners files settings 0
  of_inputs : {work : ℕ} (bytes : List ℕ) (inputs : ReadInputs) → ReadsNetlistFile held files.netlist (Go bytes)
      → ReadsInputs held corners.count bytes settings.top files.libraries (Go inputs)
      → InputsWork held corners inputs files.spef settings work → FilesWork held corners files settings work
