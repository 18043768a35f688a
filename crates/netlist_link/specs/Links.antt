-- The flat netlist of a design (IEEE 1364-2005).
use Rattle.std.specs.Prelude.{◌≡◌, ℕ, List, length, map, slice_get, Option, Some, IsTrue, ◌↔◌}
use Rattle.name_table.specs.Names.{AreDistinct}
use Rattle.cell_models.specs.NamedSets.{NamedCells, set_names}
use Rattle.cell_models.specs.declared.cell.Pin.{Pin}
use Rattle.verilog_netlist.specs.NetModules.{NetModule}
use Rattle.verilog_netlist.specs.declared.net_names.Way.TheVariants as way
use Rattle.hierarchy.specs.Walks.{Met, met_instance, cells_met}
use Rattle.netlist_link.specs.FlatBits.{NetBit, nets, top_ports}
use Rattle.netlist_link.specs.FlatNames.{net_text, net_sdf, net_name, instance_text, instance_sdf}
use Rattle.netlist_link.specs.FlatPins.{pins_of, net_on_pin, IsNumbered}
use Rattle.netlist_link.specs.FlatNetlist.{FlatInstance, FlatPort, FlatNetlist}
use Rattle.netlist_link.specs.Linked.{IsLinked}

module _ (modules : List NetModule) (top : ℕ) (cells : List NamedCells) where
  -- an instance of a cell as the walk meets it
  pub record IsInstanceOf (met : Met) (instance : FlatInstance) : Type 0 where
    pub text : instance.text ≡ instance_text modules top met
    pub sdf : instance.sdf ≡ instance_sdf modules top met
    pub cell : slice_get (set_names cells) instance.cell ≡ Some (met_instance modules top met).cell
    pub pins : length instance.nets ≡ length (pins_of cells instance.cell)
    pub on : (j : ℕ) (pin : Pin) (net : Option ℕ) → slice_get (pins_of cells instance.cell) j ≡ Some pin
        → slice_get instance.nets j ≡ Some net → IsNumbered modules top (net_on_pin modules top met pin.name) net

  -- a bit of a port of the top module
  pub record IsPortOf (bit : NetBit) (port : FlatPort) : Type 0 where
    pub text : port.text ≡ net_text modules top bit
    pub sdf : port.sdf ≡ net_sdf modules top bit
    pub net : slice_get (nets modules top) port.net ≡ Some bit
    pub input : IsTrue port.is_input ↔ ((net_name modules top bit).way ≡ way.In)

  -- the instances of cells along the walk
  pub record AreInstances (instances : List FlatInstance) : Type 0 where
    pub count : length instances ≡ length (cells_met modules top)
    pub each : (i : ℕ) (met : Met) (instance : FlatInstance) → slice_get (cells_met modules top) i ≡ Some met
        → slice_get instances i ≡ Some instance → IsInstanceOf met instance

  -- the bits of the top's ports
  pub record ArePorts (ports : List FlatPort) : Type 0 where
    pub count : length ports ≡ length (top_ports modules top)
    pub each : (p : ℕ) (bit : NetBit) (port : FlatPort) → slice_get (top_ports modules top) p ≡ Some bit
        → slice_get ports p ≡ Some port → IsPortOf bit port

  -- the netlist is that of the design: its instances, its ports, its nets with their names, drivers and sinks, and no two nets and no
  -- two instances of one name
  pub record IsNetlistOf (netlist : FlatNetlist) : Type 0 where
    pub instances : AreInstances netlist.instances
    pub ports : ArePorts netlist.ports
    pub nets_are : map (λ net. net.text) netlist.nets ≡ map (net_text modules top) (nets modules top)
    pub linked : IsLinked cells netlist
    pub net_names : AreDistinct (map (λ net. net.text) netlist.nets)
    pub instance_names : AreDistinct (map (λ instance. instance.text) netlist.instances)
