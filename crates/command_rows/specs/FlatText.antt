-- The text of a flat netlist.
use Rattle.std.specs.Prelude.{ℕ, List, [], ◌∷◌, ◌++◌, length, flat_map, slice_get, get_or, Option, Some, None, codes, decimal}
use Rattle.std.specs.Option.{option_map_or}
use Rattle.cell_models.specs.NamedSets.{set_names}
use Rattle.netlist_link.specs.FlatNetlist.{FlatInstance, FlatNet, instance_at, port_at}
use Rattle.netlist_link.specs.FlatPins.{pins_of}
use Rattle.netlist_link.specs.declared.ends.End.{End}
use Rattle.netlist_link.specs.declared.ends.End.TheVariants.{Port, Pin}
use Rattle.design_phases.specs.DesignReading.{LinkedDesign}
use Rattle.refusals.specs.RefusalLine.{pin_text}

-- the name of a net; and how many sinks it has
abbrev pub net_head : FlatNet → List ℕ
net_head net = codes "net " ++ (net.text ++ codes " ")

abbrev pub net_end : FlatNet → List ℕ
net_end net = codes " " ++ (decimal (length net.sinks) ++ 10 ∷ [])

module _ (design : LinkedDesign) where
  -- an instance, and its cell
  abbrev pub instance_line : FlatInstance → List ℕ
  instance_line instance =
      codes "instance " ++ (instance.text ++ (codes " " ++ (get_or (set_names design.cells) instance.cell [] ++ 10 ∷ [])))

  -- the name of a pin of an instance
  abbrev pub pin_name : FlatInstance → ℕ → List ℕ
  pin_name instance pin = option_map_or (λ p. p.name) (slice_get (pins_of design.cells instance.cell) pin) []

  -- what drives a net: a bit of a port, or a pin of an instance, or nothing
  abbrev pub driver_text : Option End → List ℕ
  driver_text None = codes "-"
  driver_text (Some (Port p)) = (port_at design.netlist p).text
  driver_text (Some (Pin i pin)) =
      pin_text (instance_at design.netlist i).text (pin_name (instance_at design.netlist i) pin)

  -- a net, what drives it, and how many sinks it has
  abbrev pub net_line : FlatNet → List ℕ
  net_line net = net_head net ++ (driver_text net.driver ++ net_end net)

  -- the instances in their order, and then the nets in theirs
  abbrev pub flat_text : List ℕ
  flat_text = flat_map instance_line design.netlist.instances ++ flat_map net_line design.netlist.nets
