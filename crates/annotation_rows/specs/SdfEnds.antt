-- How the ends of nets are spelled in SDF (IEEE 1497-2001).
use Rattle.std.specs.Prelude.{ℕ, ◌<◌, List, [], ◌∷◌, ◌++◌, length, map, slice_get}
use Rattle.std.specs.Option.{option_map_or}
use Rattle.cell_models.specs.Cells.{TimedCell}
use Rattle.cell_models.specs.CornerCells.{pins_at}
use Rattle.cell_models.specs.NamedSets.{NamedCells}
use Rattle.cell_models.specs.declared.cell.Pin.{Pin as CellPin}
use Rattle.edge_io.specs.Bytes.{slash}
use Rattle.name_table.specs.SdfNames.{part}
use Rattle.netlist_link.specs.FlatNetlist.{FlatNetlist, instance_at, port_at}
use Rattle.netlist_link.specs.FlatPins.{pins_of}
use Rattle.netlist_link.specs.declared.ends.End.{End}
use Rattle.netlist_link.specs.declared.ends.End.TheVariants.{Port, Pin}

-- the name of a pin as one part of a path
abbrev pub pin_part : List CellPin → ℕ → List ℕ
pin_part pins pin = part (option_map_or (λ p. p.name) (slice_get pins pin) [])

-- the names of all pins of a cell, each as one part of a path
abbrev pub spelled_pins : List TimedCell → List (List ℕ)
spelled_pins cell = map (λ (p : CellPin). part p.name) (pins_at cell 0)

module _ (cells : List NamedCells) (netlist : FlatNetlist) where
  -- how many pins the cell of an instance has
  abbrev pub pin_count : ℕ → ℕ
  pin_count instance = length (pins_of cells (instance_at netlist instance).cell)

  -- the name of a pin of the cell of an instance
  abbrev pub pin_name : ℕ → ℕ → List ℕ
  pin_name instance pin = option_map_or (λ p. p.name) (slice_get (pins_of cells (instance_at netlist instance).cell) pin) []

  -- the same as one part of a path
  abbrev pub pin_sdf : ℕ → ℕ → List ℕ
  pin_sdf instance pin = part (pin_name instance pin)

  -- a bit of a port by its name; a pin by the path of its instance, a divider, and its own name
  abbrev pub end_sdf : End → List ℕ
  end_sdf (Port port) = (port_at netlist port).sdf
  end_sdf (Pin instance pin) = (instance_at netlist instance).sdf ++ slash ∷ pin_sdf instance pin

  -- an end that the netlist has
  abbrev pub IsEndThere : End → Type 0
  IsEndThere (Port port) = port < length netlist.ports
  IsEndThere (Pin instance pin) = (instance < length netlist.instances) × (pin < pin_count instance)
