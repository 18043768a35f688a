-- The phase that puts the modules of a design together to a flat netlist (IEEE 1364).
use Rattle.std.specs.Prelude.{ℕ, List, Result, Ok, Err}
use Rattle.cell_models.specs.NamedSets.{NamedCells}
use Rattle.verilog_netlist.specs.NetModules.{NetModule}
use Rattle.netlist_link.specs.FlatDesigns.{IsFlatDesign, IsFlatEnd}
use Rattle.netlist_link.specs.FlatNetlist.{FlatNetlist}
use Rattle.netlist_link.specs.declared.ends.LinkEnd.TheVariants as end
use Rattle.refusals.specs.declared.refusal.Refusal.{Refusal}
use Rattle.refusals.specs.declared.refusal.Refusal.TheVariants.{UnknownPort, Width, InoutPin, NameClash, SeveralDrivers}

-- the module of this name, over these cells, has this flat netlist, or it has none for this reason
pub data LinksDesign (modules : List NetModule) (top : List ℕ) (cells : List NamedCells) : Result FlatNetlist Refusal → Type 0 where
  is_linked : (netlist : FlatNetlist) → IsFlatDesign modules top cells netlist → LinksDesign modules top cells (Ok netlist)
  unknown_port : (instance port : List ℕ) → IsFlatEnd modules top cells (end.UnknownPort instance port)
      → LinksDesign modules top cells (Err (UnknownPort instance port))
  width : (instance port : List ℕ) (want got : ℕ) → IsFlatEnd modules top cells (end.Width instance port want got)
      → LinksDesign modules top cells (Err (Width instance port want got))
  inout_pin : (instance pin : List ℕ) → IsFlatEnd modules top cells (end.InoutPin instance pin)
      → LinksDesign modules top cells (Err (InoutPin instance pin))
  name_clash : (name : List ℕ) → IsFlatEnd modules top cells (end.NameClash name) → LinksDesign modules top cells (Err (NameClash name))
  several_drivers : (net : List ℕ) → IsFlatEnd modules top cells (end.SeveralDrivers net)
      → LinksDesign modules top cells (Err (SeveralDrivers net))
