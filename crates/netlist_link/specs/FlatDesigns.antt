-- The design of a top module: its flat netlist, or why it has none.
use Rattle.std.specs.Prelude.{◌≡◌, ◌⊎◌, ℕ, List, [], All, Contains}
use Rattle.cell_models.specs.NamedSets.{NamedCells, set_names}
use Rattle.verilog_netlist.specs.NetModules.{NetModule}
use Rattle.hierarchy.specs.Uses.{IsTop, AreCellsUsed}
use Rattle.netlist_link.specs.FlatNetlist.{FlatNetlist}
use Rattle.netlist_link.specs.Links.{IsNetlistOf}
use Rattle.netlist_link.specs.LinkEnds.{all_faults, IsLinkEnd}
use Rattle.netlist_link.specs.declared.ends.LinkEnd.{LinkEnd}
use Rattle.netlist_link.specs.declared.ends.LinkEnd.TheVariants as refused

-- the design of the module of this name can be walked through, and each cell that it uses is among these
pub record HasCells (modules : List NetModule) (name : List ℕ) (cells : List NamedCells) : Type 0 where
  pub used : List (List ℕ)
  pub are : AreCellsUsed modules name used
  pub known : All (λ cell. Contains (set_names cells) cell) used

-- the flat netlist of the design of the module of this name, each connection of which can be made
pub record IsFlatDesign (modules : List NetModule) (name : List ℕ) (cells : List NamedCells) (netlist : FlatNetlist) : Type 0 where
  pub top : ℕ
  pub is_top : IsTop modules name top
  pub faultless : all_faults modules top cells ≡ []
  pub is : IsNetlistOf modules top cells netlist

-- why the design of the module of this name has no flat netlist
pub record IsFlatEnd (modules : List NetModule) (name : List ℕ) (cells : List NamedCells) (end : LinkEnd) : Type 0 where
  pub top : ℕ
  pub is_top : IsTop modules name top
  pub is : IsLinkEnd modules top cells end

-- the same end, but for where memory is short
abbrev pub IsSameLinkEnd : LinkEnd → LinkEnd → Type 0
IsSameLinkEnd some other = (some ≡ refused.OutOfMemory) ⊎ ((other ≡ refused.OutOfMemory) ⊎ (some ≡ other))
