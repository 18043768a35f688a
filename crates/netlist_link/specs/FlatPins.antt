-- The nets that pins of cells are on.
use Rattle.std.specs.Prelude.{◌≡◌, ℕ, List, [], slice_get, Option, Some, None, ⊤}
use Rattle.std.specs.Option.{option_map_or, option_and_then}
use Rattle.verilog_netlist.specs.NetModules.{NetModule}
use Rattle.verilog_netlist.specs.declared.runs.Bit.{Bit}
use Rattle.verilog_netlist.specs.declared.runs.Bit.TheVariants.{Tied, Wire}
use Rattle.cell_models.specs.NamedSets.{NamedCells, set_cells}
use Rattle.cell_models.specs.CornerCells.{pins_at}
use Rattle.cell_models.specs.declared.cell.Pin.{Pin}
use Rattle.hierarchy.specs.Walks.{Met, met_instance}
use Rattle.netlist_link.specs.FlatBits.{NetBit, FlatBit, Constant, OnNet, joined_to, flat_bit, nets}

-- the pins of the cell at a place: names and directions are those of each corner
abbrev pub pins_of : List NamedCells → ℕ → List Pin
pins_of cells c = option_map_or (λ models. pins_at models 0) (slice_get (set_cells cells) c) []

-- the net, and none for a constant
abbrev pub net_in : FlatBit → Option NetBit
net_in Constant = None
net_in (OnNet net) = Some net

module _ (modules : List NetModule) (top : ℕ) where
  -- what one bit in a visited module is on
  abbrev pub wired : List ℕ → Bit → Option NetBit
  wired path Tied = None
  wired path (Wire name bit) = net_in (flat_bit modules top path name bit)

  -- the net that an instance's pin of this name is on; none where the pin is not connected, or a constant is joined to it
  abbrev pub net_on_pin : Met → List ℕ → Option NetBit
  net_on_pin met pin = option_and_then (λ bits. option_and_then (wired met.path) (slice_get bits 0))
      (joined_to (met_instance modules top met).connections pin)

  -- a net by its number
  abbrev pub IsNumbered : Option NetBit → Option ℕ → Type 0
  IsNumbered None None = ⊤
  IsNumbered (Some net) (Some number) = slice_get (nets modules top) number ≡ Some net
  IsNumbered _ _ = ⊥
