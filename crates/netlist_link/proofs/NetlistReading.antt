-- The instances, nets and ports of a netlist, read from where they are kept.
use Rattle.std.proofs.Common.{◌≡◌, ℕ, ◌+◌, ◌<◌, ◌≤◌, List, length, get_or, Option, None, sym, ap, ap₂, ◌∙◌, arith, get_or-drop, get_or-take, length-take-le, length-drop}
use Rattle.std.specs.Prelude.{take, drop}
use Rattle.std.proofs.lemmas.Option.{slice_get-get_or}
use Rattle.netlist_link.specs.FlatNetlist.{FlatNetlist, instance_at, net_at, port_at, no_instance, no_net, no_port}
use Rattle.netlist_link.specs.InstanceTables.{AreInstanceTables, kept_instance, row_at, no_row}
use Rattle.netlist_link.specs.NetlistTables.{kept_net, kept_ends, netlist_of}
use Rattle.netlist_link.specs.PortRows.{kept_port}
use Rattle.netlist_link.specs.declared.grouping.KeptEnd.{KeptEnd}
use Rattle.netlist_link.specs.Grouping.{IsByNet, kept_on}
use Rattle.netlist_link.specs.declared.grouping.EndOn.{EndOn}
use Rattle.netlist_link.specs.declared.grouping.EndsByNet.{EndsByNet}
use Rattle.netlist_link.specs.declared.instances.Instances.{Instances}
use Rattle.netlist_link.specs.declared.ports.Ports.{Ports}
use Rattle.netlist_link.proofs.NetEnds.{from_is, end_is, ends_read}
use Rattle.hierarchy.proofs.Numbered.{numbered_at, numbered_count}

module _ (netlist : FlatNetlist) (instances : Instances) (ports : Ports) (texts : List (List ℕ)) (drivers : List (Option KeptEnd))
    (sinks : EndsByNet) (is : netlist_of instances ports texts drivers sinks ≡ netlist) where
  pub instance_many : length netlist.instances ≡ length instances.rows.items
  instance_many = ap (λ (n : FlatNetlist). length n.instances) (sym is) ∙ numbered_count (kept_instance instances) 0 (length instances.rows.items)

  pub net_many : length netlist.nets ≡ length texts
  net_many = ap (λ (n : FlatNetlist). length n.nets) (sym is) ∙ numbered_count (kept_net texts drivers sinks) 0 (length texts)

  pub port_many : length netlist.ports ≡ length ports.nets.items
  port_many = ap (λ (n : FlatNetlist). length n.ports) (sym is) ∙ numbered_count (kept_port ports) 0 (length ports.nets.items)

  pub instance_below : (i : ℕ) → i < length netlist.instances → i < length instances.rows.items
  instance_below i below = let many = instance_many in omega arith

  pub net_below : (n : ℕ) → n < length netlist.nets → n < length texts
  net_below n below = let many = net_many in omega arith

  pub port_below : (p : ℕ) → p < length netlist.ports → p < length ports.nets.items
  port_below p below = let many = port_many in omega arith

  pub instance_here : (i : ℕ) → i < length netlist.instances → instance_at netlist i ≡ kept_instance instances i
  instance_here i below = ap (λ (n : FlatNetlist). instance_at n i) (sym is)
      ∙ numbered_at (kept_instance instances) (length instances.rows.items) i no_instance (instance_below i below)

  pub net_here : (n : ℕ) → n < length netlist.nets → net_at netlist n ≡ kept_net texts drivers sinks n
  net_here n below = ap (λ (l : FlatNetlist). net_at l n) (sym is)
      ∙ numbered_at (kept_net texts drivers sinks) (length texts) n no_net (net_below n below)

  pub port_here : (p : ℕ) → p < length netlist.ports → port_at netlist p ≡ kept_port ports p
  port_here p below = ap (λ (n : FlatNetlist). port_at n p) (sym is)
      ∙ numbered_at (kept_port ports) (length ports.nets.items) p no_port (port_below p below)

-- the pins of an instance stand within those of all
module _ (instances : Instances) (are : AreInstanceTables instances) (i : ℕ) (below : i < length instances.rows.items) where
  pub pins_fit : (row_at instances i).first_pin + (row_at instances i).pin_count ≤ length instances.pin_nets.items
  pins_fit = are.pins_within i (row_at instances i) (slice_get-get_or instances.rows.items i no_row below)

  pub pins_many : length (kept_instance instances i).nets ≡ (row_at instances i).pin_count
  pins_many =
      let fit = pins_fit in
      let left = length-drop (row_at instances i).first_pin instances.pin_nets.items in
      length-take-le (row_at instances i).pin_count (drop (row_at instances i).first_pin instances.pin_nets.items) (omega arith)

  pub pin_here : (j : ℕ) → j < (row_at instances i).pin_count
      → get_or (kept_instance instances i).nets j None ≡ get_or instances.pin_nets.items ((row_at instances i).first_pin + j) None
  pin_here j few = get_or-take (row_at instances i).pin_count (drop (row_at instances i).first_pin instances.pin_nets.items) j None few
      ∙ get_or-drop (row_at instances i).first_pin instances.pin_nets.items j None

-- the ends of a net stand from its start to the start of the next
module _ (nets : ℕ) (ends : List EndOn) (by : EndsByNet) (is : IsByNet nets ends by) (net : ℕ) (below : net < nets) where
  pub kept_ends_are : kept_ends by net ≡ kept_on net ends
  kept_ends_are = ap₂ (λ (a b : ℕ). drop a (take b by.ends.items)) (from_is nets ends by is net below) (end_is nets ends by is net below)
      ∙ ends_read nets ends by is net below
