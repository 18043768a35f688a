-- The pins of a net of a flat netlist, as nodes of a SPEF file (IEEE 1481) and as loads.
use Rattle.std.specs.Prelude.{ℕ, ◌<◌, List, [], ◌∷◌, ◌++◌, length, map, slice_get, slice_index_or, Some, None, ⊤}
use Rattle.std.specs.List.{flat_map, range_with_len}
use Rattle.std.specs.Option.{option_map_or}
use Rattle.edge_io.specs.Bytes.{slash}
use Rattle.delay_units.specs.declared.quantities.Farads.{Farads}
use Rattle.cell_models.specs.NamedSets.{NamedCells, set_cells}
use Rattle.cell_models.specs.CornerCells.{pins_at}
use Rattle.cell_models.specs.declared.cell.Direction.TheVariants.{Internal}
use Rattle.cell_models.specs.declared.cell.Pin.{Pin}
use Rattle.name_table.specs.Names.{AreDistinct}
use Rattle.name_table.specs.SdfNames.{part}
use Rattle.name_table.specs.declared.spef_names.NodeName.{NodeName}
use Rattle.netlist_link.specs.FlatNetlist.{FlatNetlist, instance_at, net_at, port_at}
use Rattle.netlist_link.specs.declared.ends.End.{End}
use Rattle.netlist_link.specs.declared.ends.End.TheVariants as end
use Rattle.rc_tree.specs.Pins.{Pins}
use Rattle.net_parasitics.specs.Inputs.{Inputs}

-- the pins of the cell at a place, at a corner
abbrev pub cell_pins : List NamedCells → ℕ → ℕ → List Pin
cell_pins cells corner cell = option_map_or (λ models. pins_at models corner) (slice_get (set_cells cells) cell) []

-- what stands past the end of a list of pins
abbrev pub no_pin : Pin
no_pin = record { name = []; direction = Internal; cap = record { 0 = 0 } }

module _ (netlist : FlatNetlist) (cells : List NamedCells) where
  -- the pin of a number of an instance, at a corner
  abbrev pub pin_at : ℕ → ℕ → ℕ → Pin
  pin_at corner instance pin = slice_index_or (cell_pins cells corner (instance_at netlist instance).cell) pin no_pin

  -- there is such a bit of a port, or such a pin of an instance
  abbrev pub IsEnd : End → Type 0
  IsEnd (end.Port port) = port < length netlist.ports
  IsEnd (end.Pin instance pin) =
      (instance < length netlist.instances) × (pin < length (cell_pins cells 0 (instance_at netlist instance).cell))

  -- no two pins of the cell of an end have one name
  abbrev pub PinsDiffer : End → Type 0
  PinsDiffer (end.Port port) = ⊤
  PinsDiffer (end.Pin instance pin) = AreDistinct (map (λ pin. pin.name) (cell_pins cells 0 (instance_at netlist instance).cell))

  -- The name of an end as a node. A pin of an instance has the instance's path, joined by `/`, as its head and its own name as its tail;
  -- a bit of a port of the design is a head alone.
  abbrev pub end_name : End → NodeName
  end_name (end.Port port) = record { head = (port_at netlist port).text; tail = None; sdf = (port_at netlist port).sdf }
  end_name (end.Pin instance pin) = record {
    head = (instance_at netlist instance).text;
    tail = Some (pin_at 0 instance pin).name;
    sdf = (instance_at netlist instance).sdf ++ slash ∷ part (pin_at 0 instance pin).name;
  }

  -- The load of a sink at a corner: the capacitance that the pin has there, or the load of an output port.
  abbrev pub end_load : Farads → ℕ → End → Farads
  end_load port_load corner (end.Port port) = port_load
  end_load port_load corner (end.Pin instance pin) = (pin_at corner instance pin).cap

  -- the same at all corners, so many of them
  abbrev pub end_loads : ℕ → Farads → End → List Farads
  end_loads count port_load sink = map (λ corner. end_load port_load corner sink) (range_with_len 0 count)

-- the pins of a net: the end that drives it, and sinks in order
abbrev pub pins_to : Inputs → End → List End → Pins
pins_to inputs driver sinks = record {
  driver = end_name inputs.netlist inputs.cells driver;
  sinks = map (end_name inputs.netlist inputs.cells) sinks;
  loads = flat_map (end_loads inputs.netlist inputs.cells inputs.count inputs.port_load) sinks;
}

abbrev pub net_pins : Inputs → ℕ → End → Pins
net_pins inputs net driver = pins_to inputs driver (net_at inputs.netlist net).sinks
