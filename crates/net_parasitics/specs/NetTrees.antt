-- The trees of the nets of a netlist, the loads of the nets and the Elmore sums of their sinks.
use Rattle.std.specs.Prelude.{◌≡◌, ◌≢◌, ℕ, ◌<◌, length, Some, Contains, ⊤}
use Rattle.netlist_link.specs.FlatNetlist.{FlatNetlist, net_at}
use Rattle.netlist_link.specs.declared.ends.End.{End}
use Rattle.spef_nets.specs.NetElements.{NetElements as SectionElements, net_names}
use Rattle.rc_tree.specs.NetElements.{NetElements}
use Rattle.rc_tree.specs.NetLoad.{net_load}
use Rattle.rc_tree.specs.Nodes.{Node}
use Rattle.rc_tree.specs.RcTree.{IsTree}
use Rattle.rc_tree.specs.Elmore.{IsElmore}
use Rattle.rc_tree.specs.SectionNets.{net_elements, on_net, sink_node}
use Rattle.rc_tree.specs.Builds.{IsFit, IsTreeEnd}
use Rattle.rc_tree.specs.declared.ends.TreeEnd.{TreeEnd}
use Rattle.rc_tree.specs.declared.ends.TreeEnd.TheVariants as tree
use Rattle.net_delays.specs.NetTimes.{NetTimes, AreNetTimes, Fits, load_at, elmore_at}
use Rattle.net_parasitics.specs.Inputs.{Inputs}
use Rattle.net_parasitics.specs.NetPins.{net_pins}
use Rattle.net_parasitics.specs.NetSections.{IsSectionOf}
use Rattle.corner_set.specs.declared.choices.Missing.{Missing}
use Rattle.corner_set.specs.declared.choices.Missing.TheVariants.{Refuse, Zero}
use Rattle.net_parasitics.specs.declared.ends.ParasiticsEnd.{ParasiticsEnd}
use Rattle.net_parasitics.specs.declared.ends.ParasiticsEnd.TheVariants.{MissingNet, Tree, OutOfMemory}

-- a net that has a driver, this one, and a sink
pub record IsWired (netlist : FlatNetlist) (net : ℕ) (driver : End) : Type 0 where
  pub there : net < length netlist.nets
  pub driven : (net_at netlist net).driver ≡ Some driver
  pub some : 0 < length (net_at netlist net).sinks

-- a net that has no driver, or no sink
abbrev pub IsUnwired : FlatNetlist → ℕ → Type 0
IsUnwired netlist net = (driver : End) → ¬ IsWired netlist net driver

module _ (inputs : Inputs) where
  -- a net with a driver and a sink, and what its section says of it
  pub record IsNet (net : ℕ) (driver : End) (section : SectionElements) : Type 0 where
    pub wired : IsWired inputs.netlist net driver
    pub written : IsSectionOf inputs.sections (net_at inputs.netlist net).text section

  -- the elements of such a net at a corner
  abbrev pub elements_at : ℕ → End → SectionElements → ℕ → NetElements Node
  elements_at net driver section corner = net_elements inputs.count section (net_pins inputs net driver) corner

  -- the node of the net at which a sink is
  abbrev pub sink_at : ℕ → End → SectionElements → ℕ → Node
  sink_at net driver section sink = on_net section (net_pins inputs net driver) (sink_node (net_pins inputs net driver) sink)

  -- each connection of the section is a pin of the net, the net is not too large, and it is a tree at each corner
  pub record IsTreeNet (net : ℕ) (driver : End) (section : SectionElements) : Type 0 where
    pub fit : IsFit section (net_pins inputs net driver)
    pub tree : (corner : ℕ) → corner < inputs.count → IsTree (elements_at net driver section corner)

  -- no tree is asked of a net without a driver or without a sink
  pub data HasTree (net : ℕ) : Type 0 where
    needs_none : IsUnwired inputs.netlist net → HasTree net
    has_one : (driver : End) (section : SectionElements) → IsNet net driver section → IsTreeNet net driver section → HasTree net

  -- the load of the net is the sum of its capacitances, and that of each sink its Elmore sum
  pub record AreTimesOf (times : NetTimes) (net : ℕ) (driver : End) (section : SectionElements) : Type 0 where
    pub load : (corner : ℕ) → corner < inputs.count
        → load_at inputs.count times net corner ≡ net_load (elements_at net driver section corner)
    pub elmore : (corner sink : ℕ) → corner < inputs.count → sink < length (net_at inputs.netlist net).sinks
        → IsElmore (elements_at net driver section corner) (sink_at net driver section sink) (elmore_at inputs.count times net sink corner)

  pub record AreZero (times : NetTimes) (net : ℕ) : Type 0 where
    pub load : (corner : ℕ) → corner < inputs.count → load_at inputs.count times net corner ≡ 0
    pub elmore : (corner sink : ℕ) → corner < inputs.count → sink < length (net_at inputs.netlist net).sinks
        → elmore_at inputs.count times net sink corner ≡ 0

  -- the times of a net are those of its tree; those of a net without a driver or without a sink are 0
  pub data HasTimes (times : NetTimes) (net : ℕ) : Type 0 where
    are_zero : IsUnwired inputs.netlist net → AreZero times net → HasTimes times net
    are_times : (driver : End) (section : SectionElements) → IsNet net driver section → IsTreeNet net driver section
        → AreTimesOf times net driver section → HasTimes times net

  -- a net with a driver and a sink, but without a section
  pub record IsMissing (net : ℕ) : Type 0 where
    pub driver : End
    pub wired : IsWired inputs.netlist net driver
    pub absent : ¬ Contains (net_names inputs.sections) (net_at inputs.netlist net).text

  -- where missing sections are refused there is none
  abbrev pub NoneMissing : Missing → Type 0
  NoneMissing Refuse = (net : ℕ) → ¬ IsMissing net
  NoneMissing Zero = ⊤

  -- the loads and the Elmore sums of all nets, and no more
  pub record AreNetDelays (missing : Missing) (times : NetTimes) : Type 0 where
    pub fits : Fits inputs.netlist times
    pub whole : AreNetTimes inputs.count times
    pub none_missing : NoneMissing missing
    pub each : (net : ℕ) → net < length inputs.netlist.nets → HasTimes times net

  -- a net has no tree
  pub record IsRefused (net : ℕ) (end : TreeEnd) : Type 0 where
    pub driver : End
    pub section : SectionElements
    pub is : IsNet net driver section
    pub refused : IsTreeEnd inputs.count section (net_pins inputs net driver) end
    pub cause : end ≢ tree.OutOfMemory

  -- The first net without a section, where that is refused; else the first net that has no tree, and why. Want of memory alone may come at
  -- any time.
  pub data IsParasiticsEnd (missing : Missing) : ParasiticsEnd → Type 0 where
    missing_net : (net : ℕ) → missing ≡ Refuse → IsMissing net → ((other : ℕ) → other < net → ¬ IsMissing other)
        → IsParasiticsEnd missing (MissingNet net)
    no_tree : (net : ℕ) (end : TreeEnd) → NoneMissing missing → IsRefused net end → ((other : ℕ) → other < net → HasTree other)
        → IsParasiticsEnd missing (Tree net end)
    no_memory : IsParasiticsEnd missing OutOfMemory
