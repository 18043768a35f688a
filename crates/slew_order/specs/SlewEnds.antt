-- Why a design has no slews.
use Rattle.std.specs.Prelude.{◌≡◌, ℕ, ◌<◌, pos, Some, None, get_or, length, true, ⊤}
use Rattle.cell_models.specs.declared.edge.Edge.{Edge}
use Rattle.cell_models.specs.declared.edge.Edge.TheVariants.{Rise, Fall}
use Rattle.netlist_link.specs.FlatNetlist.{net_at}
use Rattle.netlist_link.specs.declared.ends.End.{End}
use Rattle.netlist_link.specs.declared.ends.End.TheVariants as end
use Rattle.nldm_lookup.specs.declared.faults.LookupEnd.TheVariants as lookup
use Rattle.slew_states.specs.Arcs.{arc_at, has_edge}
use Rattle.slew_states.specs.PinState.{worst}
use Rattle.slew_states.specs.declared.states.PinState.TheVariants.{Known}
use Rattle.slew_order.specs.declared.lookups.PartEnd.{PartEnd}
use Rattle.slew_order.specs.declared.ends.SlewEnd.{SlewEnd}
use Rattle.slew_order.specs.declared.ends.SlewEnd.TheVariants.{Loop, Outside, PastTime, SlewLimit, OutOfMemory}
use Rattle.slew_order.specs.Cycles.{IsCycleFromLeast, HasNoCycle}
use Rattle.slew_order.specs.NetStates.{net_state}
use Rattle.net_delays.specs.NetTimes.{elmore_at}
use Rattle.slew_order.specs.Timings.{SlewSource, arcs_in, flat_in, arc_number, behind_wire, lookups_at, refused_of, wire_at}

-- a sink of a net is an input pin
abbrev pub IsPin : End → Type 0
IsPin (end.Port _) = ⊥
IsPin (end.Pin _ _) = ⊤

module _ (source : SlewSource) where
  -- an edge of an arc has this worst input slew at a corner
  pub record HasWorst (arc : ℕ) (edge : Edge) (corner : ℕ) (worst_slew : ℕ) : Type 0 where
    pub within : arc < length (arcs_in source)
    pub at_corner : corner < source.count
    pub here : has_edge (arc_at (flat_in source) arc) edge ≡ true
    pub known : worst (wire_at source corner) (net_state source corner) arc (arc_at (flat_in source) arc) edge ≡ Known worst_slew

  -- its look-up there is refused, of this part and for this reason
  pub record IsRefusal (arc : ℕ) (edge : Edge) (corner : ℕ) (end : PartEnd) : Type 0 where
    pub worst_slew : ℕ
    pub has : HasWorst arc edge corner worst_slew
    pub refused : refused_of (lookups_at source corner (arc_number source arc) edge worst_slew) ≡ Some end

  abbrev pub NoRefusalAt : ℕ → Edge → ℕ → Type 0
  NoRefusalAt arc edge corner = (end : PartEnd) → IsRefusal arc edge corner end → ⊥

  -- none at the first so many corners
  abbrev pub NoRefusalTo : ℕ → Edge → ℕ → Type 0
  NoRefusalTo arc edge many = (corner : ℕ) → corner < many → NoRefusalAt arc edge corner

  -- none of the first so many arcs
  abbrev pub NoRefusals : ℕ → Type 0
  NoRefusals many = (arc : ℕ) (edge : Edge) → arc < many → NoRefusalTo arc edge source.count

  -- none of the edge before
  abbrev pub NoRefusalBefore : ℕ → Edge → Type 0
  NoRefusalBefore arc Rise = ⊤
  NoRefusalBefore arc Fall = NoRefusalTo arc Rise source.count

  -- the first refused look-up, by arc, edge (rise first) and corner
  pub record IsFirstRefusal (arc : ℕ) (edge : Edge) (corner : ℕ) (end : PartEnd) : Type 0 where
    pub refusal : IsRefusal arc edge corner end
    pub arcs : NoRefusals arc
    pub edges : NoRefusalBefore arc edge
    pub corners : NoRefusalTo arc edge corner

  -- the driver of an input pin has this slew at a corner, and behind the wire it is past the limit
  pub record IsLimit (net sink : ℕ) (edge : Edge) (corner : ℕ) (before : ℕ) : Type 0 where
    pub within : net < length source.netlist.nets
    pub sink_within : sink < length (net_at source.netlist net).sinks
    pub pin : IsPin (get_or (net_at source.netlist net).sinks sink (end.Port 0))
    pub at_corner : corner < source.count
    pub known : net_state source corner net edge ≡ Known before
    pub none : behind_wire source corner net sink before ≡ None

  abbrev pub NoLimitAt : ℕ → ℕ → Edge → ℕ → Type 0
  NoLimitAt net sink edge corner = (before : ℕ) → IsLimit net sink edge corner before → ⊥

  -- none at the first so many corners
  abbrev pub NoLimitTo : ℕ → ℕ → Edge → ℕ → Type 0
  NoLimitTo net sink edge many = (corner : ℕ) → corner < many → NoLimitAt net sink edge corner

  -- none at a sink
  abbrev pub NoLimitOf : ℕ → ℕ → Type 0
  NoLimitOf net sink = (edge : Edge) → NoLimitTo net sink edge source.count

  -- none at the first so many sinks of a net
  abbrev pub NoLimitOn : ℕ → ℕ → Type 0
  NoLimitOn net many = (sink : ℕ) → sink < many → NoLimitOf net sink

  -- none on the first so many nets
  abbrev pub NoLimits : ℕ → Type 0
  NoLimits many = (net : ℕ) → net < many → NoLimitOn net (length (net_at source.netlist net).sinks)

  abbrev pub NoLimitBefore : ℕ → ℕ → Edge → Type 0
  NoLimitBefore net sink Rise = ⊤
  NoLimitBefore net sink Fall = NoLimitTo net sink Rise source.count

  -- the first slew past the limit of a sink, by edge (rise first) and corner
  pub record IsFirstOfSink (net sink : ℕ) (edge : Edge) (corner : ℕ) (before : ℕ) : Type 0 where
    pub limit : IsLimit net sink edge corner before
    pub edges : NoLimitBefore net sink edge
    pub corners : NoLimitTo net sink edge corner

  -- the first of all, by net and sink
  pub record IsFirstLimit (net sink : ℕ) (edge : Edge) (corner : ℕ) (before : ℕ) : Type 0 where
    pub first : IsFirstOfSink net sink edge corner before
    pub nets : NoLimits net
    pub sinks : NoLimitOn net sink

  -- Why there are no slews. A cycle is asked for first, then a refused look-up, and then a slew past the limit.
  abbrev pub IsSlewEnd : SlewEnd → Type 0
  IsSlewEnd (Loop cycle) = IsCycleFromLeast source.netlist source.cells cycle
  IsSlewEnd (Outside at edge corner part outside) = HasNoCycle source.netlist source.cells
      × ((arc : ℕ) × (at ≡ arc_number source arc) × IsFirstRefusal arc edge corner (record { part = part; end = lookup.Outside outside }))
  IsSlewEnd (PastTime at edge corner part) = HasNoCycle source.netlist source.cells
      × ((arc : ℕ) × (at ≡ arc_number source arc) × IsFirstRefusal arc edge corner (record { part = part; end = lookup.PastTime }))
  IsSlewEnd (SlewLimit net sink edge corner before elmore) = HasNoCycle source.netlist source.cells × NoRefusals (length (arcs_in source))
      × ((slew : ℕ) × (before.0 ≡ pos slew) × IsFirstLimit net sink edge corner slew)
      × (elmore ≡ elmore_at source.count source.times net sink corner)
  IsSlewEnd OutOfMemory = ⊤
