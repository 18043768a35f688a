-- The parts of a flat netlist make it.
use Rattle.std.proofs.Common.{◌≡◌, ℕ, ◌<◌, ◌^◌, List, [], length, map, Option, Some, sym, ap, ◌∙◌, subst, ext_get_or}
use Rattle.std.specs.Prelude.{slice_get}
use Rattle.std.proofs.lemmas.List.{length-map, get_or-map}
use Rattle.name_table.specs.Names.{AreDistinct}
use Rattle.cell_models.specs.NamedSets.{NamedCells}
use Rattle.verilog_netlist.specs.NetModules.{NetModule}
use Rattle.netlist_link.specs.BitTables.{nets_of}
use Rattle.netlist_link.specs.FlatNames.{net_text}
use Rattle.netlist_link.specs.Clashes.{IsClash, AreNamed, texts_of_nets, texts_of_instances}
use Rattle.netlist_link.specs.Designs.{HasDesign, OverCells}
use Rattle.netlist_link.specs.DesignTables.{IsNetlistOver, IsEndOver}
use Rattle.netlist_link.specs.FlatBitTables.{IsFaultless}
use Rattle.netlist_link.specs.FlatNetlist.{FlatInstance, FlatNet, FlatPort, no_net, driving_ends, driven_ends}
use Rattle.netlist_link.specs.Grouping.{AreOnNets, IsByNet}
use Rattle.netlist_link.specs.InstanceTables.{instances_in}
use Rattle.netlist_link.specs.JointTables.{AreAllPins}
use Rattle.netlist_link.specs.KeptEnds.{flat_ends, HaveCells, AreDrivers, IsDriversEnd}
use Rattle.netlist_link.specs.LinkEnds.{no_memory}
use Rattle.netlist_link.specs.NetlistParts.{AreParts}
use Rattle.netlist_link.specs.NetlistTables.{netlist_of, nets_in, kept_net, AreNetlistTables}
use Rattle.netlist_link.specs.PathTables.{top_of}
use Rattle.netlist_link.specs.PortRows.{ports_in}
use Rattle.netlist_link.specs.declared.assembling.NetlistParts.{NetlistParts}
use Rattle.netlist_link.specs.declared.checking.Design.{Design}
use Rattle.netlist_link.specs.declared.ends.LinkEnd.{LinkEnd}
use Rattle.netlist_link.specs.declared.ends.LinkEnd.TheVariants as refused
use Rattle.netlist_link.specs.declared.grouping.EndOn.{EndOn}
use Rattle.netlist_link.specs.declared.grouping.EndsByNet.{EndsByNet}
use Rattle.netlist_link.specs.declared.grouping.KeptEnd.{KeptEnd}
use Rattle.netlist_link.proofs.ClashEnds.{nets_end, instances_end}
use Rattle.netlist_link.proofs.LinkedInstances.{instance_texts_are}
use Rattle.netlist_link.proofs.LinkedParts.{have_pins, ports-on, pins-on, nets_joined}
use Rattle.netlist_link.proofs.NetJoins.{driving-on, driven-on, refused_drivers}
use Rattle.hierarchy.proofs.Numbered.{numbered_at, numbered_count}

-- want of memory may come at any design
pub no_room : (d : Design) → OverCells d (IsEndOver d refused.OutOfMemory)
no_room d cells is distinct = no_memory

pub net_names_end : (d : Design) → IsFaultless d → (end : LinkEnd) → IsClash (texts_of_nets d) end → OverCells d (IsEndOver d end)
net_names_end d faultless end clash cells is distinct = nets_end d cells (faultless cells is distinct) end clash

pub instance_names_end : (d : Design) → IsFaultless d → (names : List (List ℕ)) → AreNamed (texts_of_nets d) names → (end : LinkEnd)
    → IsClash (texts_of_instances d) end → OverCells d (IsEndOver d end)
instance_names_end d faultless names named end clash cells is distinct =
    instances_end d cells (faultless cells is distinct) end named.distinct clash

module _ (d : Design) (has : HasDesign d) (parts : NetlistParts) (over : OverCells d (AreParts d parts)) where
  abbrev cells : List NamedCells
  cells = has.cells

  abbrev instances : List FlatInstance
  instances = instances_in parts.instances

  abbrev ports : List FlatPort
  ports = ports_in parts.ports

  are : AreParts d parts cells
  are = over cells has.is has.distinct

  pub have_cells : HaveCells d parts.instances
  have_cells = record { tables = are.instance_tables; cells = cells; are = has.is.pins; have = have_pins d.modules.now (top_of d.walk.now) cells instances are.instances }

  net_count : length parts.net_texts ≡ length (nets_of d)
  net_count = ap length are.net_names.are ∙ length-map (nets_of d) (net_text d.modules.now (top_of d.walk.now))

  on_port : (p : ℕ) (port : FlatPort) → slice_get ports p ≡ Some port → port.net < length parts.net_texts
  on_port p port here = subst (λ n. port.net < n) (sym net_count) (ports-on d.modules.now (top_of d.walk.now) cells ports are.ports p port here)

  on_pin : (i j n : ℕ) (instance : FlatInstance) → slice_get instances i ≡ Some instance → slice_get instance.nets j ≡ Some (Some n)
      → n < length parts.net_texts
  on_pin i j n instance here net = subst (λ m. n < m) (sym net_count)
      (pins-on d.modules.now (top_of d.walk.now) cells instances are.instances i j n instance here net)

  pub driving_on : (ends : List EndOn) → flat_ends ends ≡ driving_ends cells ports instances → AreOnNets (length parts.net_texts) ends
  driving_on = driving-on (length parts.net_texts) cells ports instances on_port on_pin

  pub driven_on : (ends : List EndOn) → flat_ends ends ≡ driven_ends cells ports instances → AreOnNets (length parts.net_texts) ends
  driven_on = driven-on (length parts.net_texts) cells ports instances on_port on_pin

  pub drivers_end : IsFaultless d → (driving : List EndOn)
      → ((all : List NamedCells) → AreAllPins all (length all) d.pins.now → flat_ends driving ≡ driving_ends all ports instances)
      → (end : LinkEnd) → IsDriversEnd parts.net_texts driving end → OverCells d (IsEndOver d end)
  drivers_end faultless driving driving_is end several all is distinct =
      refused_drivers d.modules.now (top_of d.walk.now) all ports instances parts.net_texts driving end (faultless all is distinct)
      (there.net_names.distinct) (there.instance_names.distinct) there.instances there.ports there.net_names.are (driving_is all is.pins) several
    where
      there : AreParts d parts all
      there = over all is distinct

  pub tables_fit : (drivers : List (Option KeptEnd)) (sinks : EndsByNet) (driving driven : List EndOn)
      → AreDrivers (length parts.net_texts) driving drivers → IsByNet (length parts.net_texts) driven sinks → length parts.net_texts < 2 ^ 32
      → length parts.instances.rows.items < 2 ^ 32 → length driven < 2 ^ 32
      → AreNetlistTables parts.instances parts.ports parts.net_texts drivers sinks
  tables_fit drivers sinks driving driven drivers_are sinks_are few_nets few_instances few_ends = record {
    instances_are = are.instance_tables;
    ports_are = are.port_tables;
    drivers_count = drivers_are.count;
    driven = driven;
    sinks_are = sinks_are;
    few_nets = few_nets;
    few_instances = few_instances;
    few_ends = few_ends;
  }

module _ (d : Design) (parts : NetlistParts) (over : OverCells d (AreParts d parts)) (faultless : IsFaultless d) (drivers : List (Option KeptEnd))
    (sinks : EndsByNet) (driving driven : List EndOn) (drivers_are : AreDrivers (length parts.net_texts) driving drivers)
    (sinks_are : IsByNet (length parts.net_texts) driven sinks)
    (driving_is : (cells : List NamedCells) → AreAllPins cells (length cells) d.pins.now
    → flat_ends driving ≡ driving_ends cells (ports_in parts.ports) (instances_in parts.instances))
    (driven_is : (cells : List NamedCells) → AreAllPins cells (length cells) d.pins.now
    → flat_ends driven ≡ driven_ends cells (ports_in parts.ports) (instances_in parts.instances)) where
  nets_many : length (nets_in parts.net_texts drivers sinks) ≡ length parts.net_texts
  nets_many = numbered_count (kept_net parts.net_texts drivers sinks) 0 (length parts.net_texts)

  net_texts_are : map (λ net. net.text) (nets_in parts.net_texts drivers sinks) ≡ parts.net_texts
  net_texts_are = ext_get_or [] (map (λ net. net.text) (nets_in parts.net_texts drivers sinks)) parts.net_texts
      (length-map (nets_in parts.net_texts drivers sinks) (λ net. net.text) ∙ nets_many)
      (λ n below. get_or-map (λ (net : FlatNet). net.text) (nets_in parts.net_texts drivers sinks) n no_net []
      (subst (λ m. n < m) (length-map (nets_in parts.net_texts drivers sinks) (λ net. net.text)) below)
      ∙ ap (λ net. net.text) (numbered_at (kept_net parts.net_texts drivers sinks) (length parts.net_texts) n no_net
      (subst (λ m. n < m) (length-map (nets_in parts.net_texts drivers sinks) (λ net. net.text) ∙ nets_many) below)))

  pub makes_netlist : OverCells d (IsNetlistOver d (netlist_of parts.instances parts.ports parts.net_texts drivers sinks))
  makes_netlist cells is distinct = record {
    faultless = faultless cells is distinct;
    is = record {
      instances = there.instances;
      ports = there.ports;
      nets_are = net_texts_are ∙ there.net_names.are;
      linked = record {
        cell = (have_pins modules top cells instances there.instances).cell;
        pins = (have_pins modules top cells instances there.instances).pins;
        nets = λ i j n instance here net. subst (λ m. n < m) (sym (nets_many ∙ count)) (pins-on modules top cells instances there.instances i j n instance here net);
        ports = λ p port here. subst (λ m. port.net < m) (sym (nets_many ∙ count)) (ports-on modules top cells ports there.ports p port here);
        joined = nets_joined cells ports instances parts.net_texts drivers sinks driving driven (driving_is cells is.pins) (driven_is cells is.pins)
            drivers_are sinks_are;
      };
      net_names = subst AreDistinct (sym (net_texts_are ∙ there.net_names.are)) there.net_names.distinct;
      instance_names = subst AreDistinct (sym (instance_texts_are modules top cells instances there.instances)) there.instance_names.distinct;
    };
  }
    where
      modules : List NetModule
      modules = d.modules.now

      top : ℕ
      top = top_of d.walk.now

      instances : List FlatInstance
      instances = instances_in parts.instances

      ports : List FlatPort
      ports = ports_in parts.ports

      there : AreParts d parts cells
      there = over cells is distinct

      count : length parts.net_texts ≡ length (nets_of d)
      count = ap length there.net_names.are ∙ length-map (nets_of d) (net_text d.modules.now (top_of d.walk.now))
