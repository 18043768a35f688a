-- Which sink of its net a pin of an instance is.
use Rattle.std.specs.Prelude.{◌≡◌, ℕ, suc, ◌<◌, ◌==◌, ◌&&◌, Bool, false, if◌then◌else◌, List, [], ◌∷◌, length, Option, Some, None}
use Rattle.cell_models.specs.NamedSets.{NamedCells}
use Rattle.netlist_link.specs.FlatNetlist.{FlatNetlist, instance_at, net_at}
use Rattle.netlist_link.specs.declared.ends.End.{End}
use Rattle.netlist_link.specs.declared.ends.End.TheVariants as end
use Rattle.slew_order.specs.declared.arcs.ArcAt.{ArcAt}
use Rattle.net_delays.specs.NetTimes.{AreSums}
use Rattle.slew_order.specs.FlatArcs.{net_on, cell_arc}

abbrev pub is_pin : ℕ → ℕ → End → Bool
is_pin instance pin (end.Port _) = false
is_pin instance pin (end.Pin this at) = (this == instance) && (at == pin)

-- the place of a pin among sinks, and their number where it is none of them
abbrev pub pin_place : ℕ → ℕ → List End → ℕ
pin_place instance pin [] = 0
pin_place instance pin (sink ∷ sinks) = if is_pin instance pin sink then 0 else suc (pin_place instance pin sinks)

module _ (netlist : FlatNetlist) where
  -- which sink of its net a pin is; 0 where it is on none
  abbrev pub sink_on : ℕ → ℕ → Option ℕ → ℕ
  sink_on instance pin None = 0
  sink_on instance pin (Some net) = pin_place instance pin (net_at netlist net).sinks

  -- the same of the related pin of an arc
  abbrev pub related_sink : List NamedCells → ArcAt → ℕ
  related_sink cells at =
      sink_on at.instance (cell_arc netlist cells at 0).from (net_on netlist at.instance (cell_arc netlist cells at 0).from)

  -- the related pin of an arc that is on a net is one of its sinks
  abbrev pub IsSunk : List NamedCells → ArcAt → Type 0
  IsSunk cells at = (net : ℕ) → net_on netlist at.instance (cell_arc netlist cells at 0).from ≡ Some net
      → related_sink cells at < length (net_at netlist net).sinks

  -- the pins of the instances begin there
  abbrev pub ArePinStarts : List ℕ → Type 0
  ArePinStarts starts = AreSums (λ instance. length (instance_at netlist instance).nets) (length netlist.instances) starts
