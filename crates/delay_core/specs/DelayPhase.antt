-- The phases that find the loads and the Elmore sums of a design's nets: first the nets that have no section, where these are refused,
-- and then the trees of all nets.
use Rattle.std.specs.Prelude.{ℕ, List, Result, Ok, Err}
use Rattle.name_table.specs.declared.spef_names.NodeName.{NodeName}
use Rattle.netlist_link.specs.FlatNetlist.{FlatNetlist, net_at}
use Rattle.rc_tree.specs.declared.ends.TreeEnd.{TreeEnd}
use Rattle.rc_tree.specs.declared.ends.TreeEnd.TheVariants as tree
use Rattle.net_delays.specs.NetTimes.{NetTimes}
use Rattle.net_parasitics.specs.Inputs.{Inputs}
use Rattle.net_parasitics.specs.NetTrees.{AreNetDelays, IsParasiticsEnd}
use Rattle.corner_set.specs.declared.choices.Missing.{Missing}
use Rattle.net_parasitics.specs.declared.ends.ParasiticsEnd.TheVariants as nets
use Rattle.refusals.specs.declared.refusal.LimitKind.TheVariants.{Net}
use Rattle.refusals.specs.declared.refusal.Refusal.{Refusal}
use Rattle.refusals.specs.declared.refusal.Refusal.TheVariants.{MissingNet, StrangePin, Unreached, Mesh, Limit}

-- the name of the net of a number
abbrev pub net_text : FlatNetlist → ℕ → List ℕ
net_text netlist net = (net_at netlist net).text

-- the refusal of a net of this name that has no tree
pub data IsTreeRefusal (net : List ℕ) : TreeEnd → Refusal → Type 0 where
  strange_pin : (pin : NodeName) → IsTreeRefusal net (tree.StrangePin pin) (StrangePin net pin)
  too_large : IsTreeRefusal net tree.TooLarge (Limit (Net net))
  unreached : (node : NodeName) → IsTreeRefusal net (tree.Unreached node) (Unreached net node)
  mesh : (resistor : ℕ) → IsTreeRefusal net (tree.Mesh resistor) (Mesh net resistor)

-- the nets have these loads and Elmore sums; or the first that needs a section has none; or the first that has no tree is refused
pub data FindsDelays (inputs : Inputs) (missing : Missing) : Result NetTimes Refusal → Type 0 where
  are_delays : (times : NetTimes) → AreNetDelays inputs missing times → FindsDelays inputs missing (Ok times)
  missing_net : (net : ℕ) → IsParasiticsEnd inputs missing (nets.MissingNet net)
      → FindsDelays inputs missing (Err (MissingNet (net_text inputs.netlist net)))
  no_tree : (net : ℕ) (end : TreeEnd) (refusal : Refusal) → IsParasiticsEnd inputs missing (nets.Tree net end)
      → IsTreeRefusal (net_text inputs.netlist net) end refusal → FindsDelays inputs missing (Err refusal)
