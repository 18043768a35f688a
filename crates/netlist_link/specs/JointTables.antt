-- The ports and pins to which connections lead, as they are looked for and kept.
use Rattle.std.specs.Prelude.{◌≡◌, ℕ, ◌&&◌, if◌then◌else◌, List, length, map, slice_get, Some}
use Rattle.std.specs.List.{position_or_len}
use Rattle.std.specs.Str.{bytes_eq}
use Rattle.name_table.specs.Names.{AreDistinct}
use Rattle.cell_models.specs.NamedSets.{NamedCells}
use Rattle.cell_models.specs.declared.cell.Pin.{Pin}
use Rattle.verilog_netlist.specs.NetModules.{NetModule, module_at}
use Rattle.hierarchy.specs.Hierarchy.{module_on, lower_of}
use Rattle.hierarchy.specs.Walks.{Met, is_module, met_instance}
use Rattle.netlist_link.specs.FlatBits.{is_port}
use Rattle.netlist_link.specs.FlatPins.{pins_of}
use Rattle.netlist_link.specs.LinkEnds.{pins_met}
use Rattle.netlist_link.specs.PortTables.{ArePinNumbers}
use Rattle.netlist_link.specs.declared.cell_pins.CellPins.{CellPins}

abbrev pub pin_names : List Pin → List (List ℕ)
pin_names pins = map (λ pin. pin.name) pins

-- the pins of a cell: their numbers by their names, and their directions
pub record AreCellPins (pins : List Pin) (kept : CellPins) : Type 0 where
  pub numbers : ArePinNumbers (pin_names pins) kept.numbers
  pub directions : kept.directions.items ≡ map (λ pin. pin.direction) pins

-- these are the pins of a cell, whose names differ
pub record AreOfCell (kept : CellPins) : Type 0 where
  pub pins : List Pin
  pub are : AreCellPins pins kept
  pub distinct : AreDistinct (pin_names pins)

-- the pins of all cells, by the cells' places
pub record AreAllPins (cells : List NamedCells) (many : ℕ) (kept : List CellPins) : Type 0 where
  pub count : length kept ≡ many
  pub each : (c : ℕ) (pins : CellPins) → slice_get kept c ≡ Some pins → AreCellPins (pins_of cells c) pins

-- the pins of cells whose pins' names differ
pub record AreOfCells (kept : List CellPins) : Type 0 where
  pub each : (c : ℕ) (pins : CellPins) → slice_get kept c ≡ Some pins → AreOfCell pins

module _ (modules : List NetModule) (top : ℕ) (cells : List NamedCells) where
  -- the number of the port or the pin of this name, where there is one
  abbrev pub joint_number : Met → List ℕ → ℕ
  joint_number met port =
      if is_module modules top met
      then position_or_len (λ name. is_port name && bytes_eq port name.text)
      (module_at modules (lower_of modules (module_on modules top met.path) met.instance)).names
      else position_or_len (λ pin. bytes_eq port pin.name) (pins_met modules top cells met)

  abbrev pub numbers_of : Met → List ℕ
  numbers_of met = map (λ connection. joint_number met connection.port) (met_instance modules top met).connections
