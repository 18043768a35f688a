-- Flat netlists of which every name is well spelled in SDF (IEEE 1497-2001).
use Rattle.std.specs.Prelude.{◌≡◌, ◌≢◌, ℕ, List, [], slice_get, Some, All}
use Rattle.cell_models.specs.NamedSets.{NamedCells}
use Rattle.cell_models.specs.declared.cell.Pin.{Pin}
use Rattle.name_table.specs.WellSpelled.{IsWellSpelled}
use Rattle.verilog_netlist.specs.NetModules.{NetModule}
use Rattle.netlist_link.specs.FlatBits.{nets}
use Rattle.netlist_link.specs.FlatNames.{net_sdf}
use Rattle.netlist_link.specs.FlatNetlist.{FlatInstance, FlatNetlist}
use Rattle.netlist_link.specs.FlatPins.{pins_of}

-- each instance and each bit of a port has a spelling that is well spelled
pub record AreWellSpelled (netlist : FlatNetlist) : Type 0 where
  pub instances : All (λ instance. IsWellSpelled instance.sdf) netlist.instances
  pub ports : All (λ port. IsWellSpelled port.sdf) netlist.ports

-- A pin that is on a net has a name. One that is not may have none: a library may name a pin by an empty text.
abbrev pub ArePinsNamed : List NamedCells → FlatNetlist → Type 0
ArePinsNamed cells netlist = (i j : ℕ) (instance : FlatInstance) (pin : Pin) (net : ℕ) → slice_get netlist.instances i ≡ Some instance
    → slice_get (pins_of cells instance.cell) j ≡ Some pin → slice_get instance.nets j ≡ Some (Some net) → pin.name ≢ []

-- the spelling of each net below this top module is well spelled
abbrev pub AreNetsWellSpelled : List NetModule → ℕ → Type 0
AreNetsWellSpelled modules top = All (λ net. IsWellSpelled (net_sdf modules top net)) (nets modules top)
