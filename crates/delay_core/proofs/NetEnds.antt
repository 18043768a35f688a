-- What the end of the nets names is there, and its refusal comes behind the first tree.
use Rattle.std.proofs.Common.{ℕ, ◌<◌, List, length}
use Rattle.std.specs.Prelude.{IsTrue}
use Rattle.rc_tree.specs.declared.ends.TreeEnd.{TreeEnd}
use Rattle.net_parasitics.specs.Inputs.{Inputs}
use Rattle.net_parasitics.specs.NetTrees.{IsParasiticsEnd, missing_net, no_tree}
use Rattle.corner_set.specs.declared.choices.Missing.{Missing}
use Rattle.net_parasitics.specs.declared.ends.ParasiticsEnd.TheVariants.{MissingNet, Tree}
use Rattle.refusals.specs.EarlyRefusals.{is_early}
use Rattle.refusals.specs.declared.refusal.Refusal.{Refusal}
use Rattle.delay_core.specs.DelayPhase.{IsTreeRefusal, strange_pin, too_large, unreached, mesh}

pub missing_there : (inputs : Inputs) (missing : Missing) (net : ℕ) → IsParasiticsEnd inputs missing (MissingNet net) → net < length inputs.netlist.nets
missing_there inputs missing _ (missing_net net refuse is earlier) = is.wired.there

pub tree_there : (inputs : Inputs) (missing : Missing) (net : ℕ) (end : TreeEnd) → IsParasiticsEnd inputs missing (Tree net end) → net < length inputs.netlist.nets
tree_there inputs missing _ _ (no_tree net end none refused earlier) = refused.is.wired.there

pub is_late : (net : List ℕ) (end : TreeEnd) (refusal : Refusal) → IsTreeRefusal net end refusal → IsTrue (is_early refusal) → ⊥
is_late net _ _ (strange_pin pin) early = cc
is_late net _ _ too_large early = cc
is_late net _ _ (unreached node) early = cc
is_late net _ _ (mesh resistor) early = cc
