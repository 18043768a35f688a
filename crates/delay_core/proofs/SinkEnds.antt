-- A sink that is a pin is a pin of an instance.
use Rattle.std.proofs.Common.{◌≡◌, ℕ, List, get_or, sym, subst, ◌∙◌}
use Rattle.cell_models.specs.NamedSets.{NamedCells}
use Rattle.netlist_link.specs.FlatNetlist.{FlatNetlist, net_at}
use Rattle.netlist_link.specs.Linked.{IsLinked}
use Rattle.netlist_link.specs.declared.ends.End.{End}
use Rattle.netlist_link.specs.declared.ends.End.TheVariants.{Port, Pin}
use Rattle.net_parasitics.specs.NetPins.{IsEnd}
use Rattle.net_parasitics.proofs.NodeNames.{sink_is_end}
use Rattle.delay_core.specs.EndsThere.{IsPinSink}

pub pin_there : (cells : List NamedCells) (netlist : FlatNetlist) (net sink instance pin : ℕ) (end : End) → IsLinked cells netlist → IsPinSink netlist net sink → end ≡ get_or (net_at netlist net).sinks sink (Port 0) → end ≡ Pin instance pin
    → IsEnd netlist cells (Pin instance pin)
pin_there cells netlist net sink instance pin end linked there at is =
    subst (IsEnd netlist cells) (sym at ∙ is) (sink_is_end cells netlist net sink (Port 0) linked there.net_there there.sink_there)
