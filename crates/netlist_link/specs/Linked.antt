-- A flat netlist that is linked with its cells.
use Rattle.std.specs.Prelude.{◌≡◌, ℕ, ◌<◌, List, length, slice_get, Some, option_to_list}
use Rattle.cell_models.specs.NamedSets.{NamedCells}
use Rattle.netlist_link.specs.FlatPins.{pins_of}
use Rattle.netlist_link.specs.FlatNetlist.{FlatInstance, FlatPort, FlatNet, FlatNetlist, EndOn, driving_ends, driven_ends, ends_on}

-- a net has at most one driver, and its sinks in order
pub record IsJoined (driving driven : List EndOn) (n : ℕ) (net : FlatNet) : Type 0 where
  pub driver : option_to_list net.driver ≡ ends_on n driving
  pub sinks : net.sinks ≡ ends_on n driven

-- Each instance has its cell among these, and a net or none for each of its pins. Each net has as its driver and as its sinks just the
-- pins and ports that are on it.
pub record IsLinked (cells : List NamedCells) (netlist : FlatNetlist) : Type 0 where
  pub cell : (i : ℕ) (instance : FlatInstance) → slice_get netlist.instances i ≡ Some instance → instance.cell < length cells
  pub pins : (i : ℕ) (instance : FlatInstance) → slice_get netlist.instances i ≡ Some instance
      → length instance.nets ≡ length (pins_of cells instance.cell)
  pub nets : (i j n : ℕ) (instance : FlatInstance) → slice_get netlist.instances i ≡ Some instance
      → slice_get instance.nets j ≡ Some (Some n) → n < length netlist.nets
  pub ports : (p : ℕ) (port : FlatPort) → slice_get netlist.ports p ≡ Some port → port.net < length netlist.nets
  pub joined : (n : ℕ) (net : FlatNet) → slice_get netlist.nets n ≡ Some net
      → IsJoined (driving_ends cells netlist.ports netlist.instances) (driven_ends cells netlist.ports netlist.instances) n net
