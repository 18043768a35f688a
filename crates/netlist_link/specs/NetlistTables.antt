-- A flat netlist as it is kept.
use Rattle.std.specs.Prelude.{◌≡◌, ℕ, ◌+◌, ◌<◌, ◌^◌, List, [], ◌∷◌, length, map, take, drop, get_or, slice_index, Option, None, option_map}
use Rattle.hierarchy.specs.Walks.{joined_from}
use Rattle.netlist_link.specs.FlatEnds.{end_of}
use Rattle.netlist_link.specs.FlatNetlist.{FlatNet, FlatNetlist}
use Rattle.netlist_link.specs.Grouping.{IsByNet}
use Rattle.netlist_link.specs.InstanceTables.{instances_in, AreInstanceTables}
use Rattle.netlist_link.specs.PortRows.{ports_in, ArePortTables}
use Rattle.netlist_link.specs.declared.grouping.KeptEnd.{KeptEnd}
use Rattle.netlist_link.specs.declared.grouping.EndOn.{EndOn}
use Rattle.netlist_link.specs.declared.grouping.EndsByNet.{EndsByNet}
use Rattle.netlist_link.specs.declared.instances.Instances.{Instances}
use Rattle.netlist_link.specs.declared.ports.Ports.{Ports}

-- the ends on a net, which stand from its start to the start of the next
abbrev pub kept_ends : EndsByNet → ℕ → List KeptEnd
kept_ends by n = drop (slice_index by.starts.items n) (take (slice_index by.starts.items (n + 1)) by.ends.items)

abbrev pub kept_net : List (List ℕ) → List (Option KeptEnd) → EndsByNet → ℕ → FlatNet
kept_net texts drivers sinks n = record {
  text = get_or texts n [];
  driver = option_map end_of (get_or drivers n None);
  sinks = map end_of (kept_ends sinks n);
}

abbrev pub nets_in : List (List ℕ) → List (Option KeptEnd) → EndsByNet → List FlatNet
nets_in texts drivers sinks = joined_from (λ n. kept_net texts drivers sinks n ∷ []) 0 (length texts)

abbrev pub netlist_of : Instances → Ports → List (List ℕ) → List (Option KeptEnd) → EndsByNet → FlatNetlist
netlist_of instances ports texts drivers sinks = record {
  instances = instances_in instances;
  nets = nets_in texts drivers sinks;
  ports = ports_in ports;
}

-- the tables of a netlist fit each other
pub record AreNetlistTables (instances : Instances) (ports : Ports) (texts : List (List ℕ)) (drivers : List (Option KeptEnd))
    (sinks : EndsByNet) : Type 0 where
  pub instances_are : AreInstanceTables instances
  pub ports_are : ArePortTables ports
  pub drivers_count : length drivers ≡ length texts
  pub driven : List EndOn
  pub sinks_are : IsByNet (length texts) driven sinks
  pub few_nets : length texts < 2 ^ 32
  pub few_instances : length instances.rows.items < 2 ^ 32
  pub few_ends : length driven < 2 ^ 32
