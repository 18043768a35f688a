-- What the parasitics of a design's nets are taken from.
use Rattle.std.specs.Prelude.{ℕ, ◌≤◌, List, map, All}
use Rattle.cell_models.specs.NamedSets.{NamedCells}
use Rattle.delay_units.specs.Bounds.{most_farads}
use Rattle.delay_units.specs.declared.quantities.Farads.{Farads}
use Rattle.name_table.specs.Names.{AreDistinct}
use Rattle.netlist_link.specs.FlatNetlist.{FlatNetlist}
use Rattle.netlist_link.specs.Linked.{IsLinked}
use Rattle.spef_nets.specs.NetElements.{NetElements}

-- how many corners there are, the flat netlist with its cells, the nets of the sections of a SPEF file, and the load of an output port
pub record Inputs : Type 0 where
  pub count : ℕ
  pub netlist : FlatNetlist
  pub cells : List NamedCells
  pub sections : List NetElements
  pub port_load : Farads

abbrev pub inputs_of : ℕ → FlatNetlist → List NamedCells → List NetElements → Farads → Inputs
inputs_of count netlist cells sections port_load = record {
  count = count;
  netlist = netlist;
  cells = cells;
  sections = sections;
  port_load = port_load;
}

-- no two instances have one name, and no two bits of ports
pub record AreNamedApart (netlist : FlatNetlist) : Type 0 where
  pub instances : AreDistinct (map (λ instance. instance.text) netlist.instances)
  pub ports : AreDistinct (map (λ port. port.text) netlist.ports)

-- no pin of a cell has more than a nanofarad at any corner
abbrev pub HaveSmallPins : List NamedCells → Type 0
HaveSmallPins cells = All (λ set. All (λ cell. All (λ pin. pin.cap.0 ≤ most_farads) cell.pins) set.cells) cells

pub record AreSound (inputs : Inputs) : Type 0 where
  pub linked : IsLinked inputs.cells inputs.netlist
  pub apart : AreNamedApart inputs.netlist
  pub small_pins : HaveSmallPins inputs.cells
  pub small_ports : inputs.port_load.0 ≤ most_farads
