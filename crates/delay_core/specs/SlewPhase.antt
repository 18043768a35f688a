-- The phases that find the slews of a design's pins: first the loops of its arcs, then the lookups in its tables, and then the slews
-- behind its wires.
use Rattle.std.specs.Prelude.{◌≡◌, ℕ, List, [], map, get_or, Result, Ok, Err}
use Rattle.std.specs.Option.{option_map_or}
use Rattle.cell_models.specs.NamedSets.{NamedCells}
use Rattle.cell_models.specs.declared.edge.Edge.{Edge}
use Rattle.cell_models.specs.declared.edge.Part.{Part}
use Rattle.delay_units.specs.declared.quantities.Atto.{Atto}
use Rattle.netlist_link.specs.FlatNetlist.{FlatNetlist, instance_at, net_at}
use Rattle.netlist_link.specs.declared.ends.End.TheVariants.{Port, Pin}
use Rattle.nldm_lookup.specs.declared.faults.Outside.{Outside as PastAxis}
use Rattle.slew_order.specs.Cycles.{related_net}
use Rattle.slew_order.specs.FlatArcs.{cell_arc}
use Rattle.slew_order.specs.SlewEnds.{IsSlewEnd}
use Rattle.slew_order.specs.Slews.{SlewTables, AreSlews}
use Rattle.slew_order.specs.Timings.{SlewSource}
use Rattle.slew_order.specs.declared.arcs.ArcAt.{ArcAt}
use Rattle.slew_order.specs.declared.ends.SlewEnd.{SlewEnd}
use Rattle.slew_order.specs.declared.ends.SlewEnd.TheVariants as end
use Rattle.net_parasitics.specs.NetPins.{pin_at}
use Rattle.refusals.specs.declared.refusal.Refusal.{Refusal}
use Rattle.refusals.specs.declared.refusal.Refusal.TheVariants.{Loop, Outside, SlewLimit, PastTime}
use Rattle.delay_core.specs.DelayPhase.{net_text}

-- the name of an instance
abbrev pub instance_text : FlatNetlist → ℕ → List ℕ
instance_text netlist instance = (instance_at netlist instance).text

module _ (netlist : FlatNetlist) (cells : List NamedCells) where
  -- the name of a pin of an instance, which is the same at each corner
  abbrev pub pin_text : ℕ → ℕ → List ℕ
  pin_text instance pin = (pin_at netlist cells 0 instance pin).name

  -- the names of the pins that an arc leads from and to
  abbrev pub from_text : ArcAt → List ℕ
  from_text at = pin_text at.instance (cell_arc netlist cells at 0).from

  abbrev pub to_text : ArcAt → List ℕ
  to_text at = pin_text at.instance (cell_arc netlist cells at 0).to

  -- the name of the net that the related pin of an arc is on
  abbrev pub related_text : ArcAt → List ℕ
  related_text at = option_map_or (net_text netlist) (related_net netlist cells at) []

  -- the refusal of a design that has no slews: a loop, a lookup that is past an axis or past time, or a slew past its limit behind a wire
  pub data IsSlewRefusal : SlewEnd → Refusal → Type 0 where
    is_loop : (cycle : List ArcAt) → IsSlewRefusal (end.Loop cycle) (Loop (map related_text cycle))
    is_outside : (at : ArcAt) (edge : Edge) (corner : ℕ) (part : Part) (past : PastAxis)
        → IsSlewRefusal (end.Outside at edge corner part past)
        (Outside (instance_text netlist at.instance) (from_text at) (to_text at) edge corner part past.axis past.value)
    is_past_time : (at : ArcAt) (edge : Edge) (corner : ℕ) (part : Part)
        → IsSlewRefusal (end.PastTime at edge corner part)
        (PastTime (instance_text netlist at.instance) (from_text at) (to_text at) edge corner part)
    is_slew_limit : (net sink instance pin : ℕ) (edge : Edge) (corner : ℕ) (slew : Atto) (elmore : ℕ)
        → get_or (net_at netlist net).sinks sink (Port 0) ≡ Pin instance pin
        → IsSlewRefusal (end.SlewLimit net sink edge corner slew elmore)
        (SlewLimit (net_text netlist net) (instance_text netlist instance) (pin_text instance pin) edge corner slew elmore)

-- the pins have these slews, or the design is refused for the reason why they have none
pub data FindsSlews (source : SlewSource) : Result SlewTables Refusal → Type 0 where
  are_slews : (slews : SlewTables) → AreSlews source slews → FindsSlews source (Ok slews)
  no_slews : (end : SlewEnd) (refusal : Refusal) → IsSlewEnd source end → IsSlewRefusal source.netlist source.cells end refusal
      → FindsSlews source (Err refusal)
