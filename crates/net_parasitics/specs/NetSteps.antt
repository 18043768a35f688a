-- How the loads and the Elmore sums of nets are put where those of all nets are kept, net after net.
use Rattle.std.specs.Prelude.{◌≡◌, ◌≢◌, ℕ, ◌+◌, ◌<◌, ◌≤◌, List, length, sum_by, slice_index_or}
use Rattle.netlist_link.specs.FlatNetlist.{net_at}
use Rattle.rc_tree.specs.Arenas.{Arena, node_count, arena_elements}
use Rattle.rc_tree.specs.Elmore.{IsElmore}
use Rattle.rc_tree.specs.NetLoad.{net_load}
use Rattle.rc_tree.specs.declared.ends.TreeEnd.{TreeEnd}
use Rattle.elmore_pass.specs.Delays.{HasDelay}
use Rattle.net_delays.specs.NetTimes.{NetTimes, load_at, elmore_at, HasNet, HasSink, Fits}
use Rattle.net_parasitics.specs.Inputs.{Inputs}
use Rattle.net_parasitics.specs.NetPins.{end_load}
use Rattle.net_parasitics.specs.NetTrees.{IsMissing, IsRefused, HasTree, AreZero, HasTimes}
use Rattle.net_parasitics.specs.WorkCounts.{NetWork}
use Rattle.net_parasitics.specs.declared.ends.ParasiticsEnd.{ParasiticsEnd}
use Rattle.net_parasitics.specs.declared.ends.ParasiticsEnd.TheVariants.{MissingNet, Tree, OutOfMemory}

-- a tree as it is kept, with a sum for each node and corner
pub record DrawnTree : Type 0 where
  pub tree : Arena
  pub sums : List ℕ

-- each node has its Elmore sum at a corner
abbrev pub AreSums : ℕ → Arena → List ℕ → ℕ → Type 0
AreSums count tree sums corner = (node : ℕ) → node < node_count tree → HasDelay count tree sums node corner

-- the node of a sink in a tree
abbrev pub node_of_sink : Arena → ℕ → ℕ
node_of_sink tree sink = (slice_index_or tree.sinks sink (record { 0 = 0 })).0

-- a net has the load of a tree at a corner, and its sinks have the tree's Elmore sums
pub record HasTreeTimes (count : ℕ) (tree : Arena) (times : NetTimes) (net corner : ℕ) : Type 0 where
  pub load : load_at count times net corner ≡ net_load (arena_elements count tree corner)
  pub elmore : (sink : ℕ) → sink < length tree.sinks
      → IsElmore (arena_elements count tree corner) (node_of_sink tree sink) (elmore_at count times net sink corner)

-- all that is kept of other nets, and of a net at other corners, is what it was
pub record KeepsOtherCorners (count : ℕ) (before after : NetTimes) (net corner : ℕ) : Type 0 where
  pub starts : after.starts ≡ before.starts
  pub loads : (other at : ℕ) → HasNet before other → at < count → ¬ ((other ≡ net) × (at ≡ corner))
      → load_at count after other at ≡ load_at count before other at
  pub elmores : (other sink at : ℕ) → HasSink before other sink → at < count → ¬ ((other ≡ net) × (at ≡ corner))
      → elmore_at count after other sink at ≡ elmore_at count before other sink at

-- all that is kept of other nets is what it was
pub record KeepsOtherNets (count : ℕ) (before after : NetTimes) (net : ℕ) : Type 0 where
  pub starts : after.starts ≡ before.starts
  pub loads : (other corner : ℕ) → HasNet before other → corner < count → other ≢ net
      → load_at count after other corner ≡ load_at count before other corner
  pub elmores : (other sink corner : ℕ) → HasSink before other sink → corner < count → other ≢ net
      → elmore_at count after other sink corner ≡ elmore_at count before other sink corner

module _ (inputs : Inputs) where
  -- the load of a net is that of its sinks alone
  abbrev pub HasOwnLoad : ℕ → NetTimes → ℕ → ℕ → Type 0
  HasOwnLoad count times net corner = load_at count times net corner
      ≡ sum_by (λ sink. (end_load inputs.netlist inputs.cells inputs.port_load corner sink).0) (net_at inputs.netlist net).sinks

  -- the first net that has no section, where one is needed
  pub data IsFirstMissing : ParasiticsEnd → Type 0 where
    first_missing : (net : ℕ) → IsMissing inputs net → ((other : ℕ) → other < net → ¬ IsMissing inputs other)
        → IsFirstMissing (MissingNet net)

  -- the net of a number has no tree, or there was no memory for it
  pub data IsNetEnd (net : ℕ) : ParasiticsEnd → Type 0 where
    net_refused : (end : TreeEnd) → IsRefused inputs net end → IsNetEnd net (Tree net end)
    no_memory_for_it : IsNetEnd net OutOfMemory

  -- the first net that has no tree, or for which there was no memory
  pub record IsFirstNetEnd (end : ParasiticsEnd) : Type 0 where
    pub net : ℕ
    pub is : IsNetEnd net end
    pub earlier : (other : ℕ) → other < net → HasTree inputs other

  -- a count rose by no more than the work of a net
  pub record TakesWork (net before after : ℕ) : Type 0 where
    pub work : ℕ
    pub given : NetWork inputs net work
    pub bound : after ≤ before + work

  -- the first nets have their times, so many of them, and all others are 0
  pub record AreFirstTimes (nets : ℕ) (times : NetTimes) : Type 0 where
    pub fits : Fits inputs.netlist times
    pub before : (net : ℕ) → net < nets → HasTimes inputs times net
    pub after : (net : ℕ) → nets ≤ net → net < length inputs.netlist.nets → AreZero inputs times net
