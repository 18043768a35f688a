-- What the end of the slews names is there, and its refusal comes behind the first tree.
use Rattle.std.proofs.Common.{◌≡◌, ℕ, ◌<◌, List, [], ◌∷◌, length, Err, refl, subst, sym, arith}
use Rattle.std.specs.Prelude.{All, IsTrue}
use Rattle.std.proofs.lemmas.List.Elements.{All-nil, All-cons, All-get_or}
use Rattle.cell_models.specs.NamedSets.{NamedCells}
use Rattle.netlist_link.specs.FlatNetlist.{FlatNetlist}
use Rattle.netlist_link.specs.Linked.{IsLinked}
use Rattle.slew_order.specs.Cycles.{ArcsJoin}
use Rattle.slew_order.specs.FlatArcs.{IsArcAt}
use Rattle.slew_order.specs.SlewEnds.{IsSlewEnd}
use Rattle.net_delays.specs.NetTimes.{NetTimes}
use Rattle.slew_order.specs.Timings.{SlewSource, arcs_in, arc_number, no_arc_at}
use Rattle.slew_order.specs.declared.arcs.ArcAt.{ArcAt}
use Rattle.slew_order.specs.declared.ends.SlewEnd.{SlewEnd}
use Rattle.slew_order.specs.declared.ends.SlewEnd.TheVariants.{Loop, Outside, PastTime, SlewLimit, OutOfMemory}
use Rattle.slew_order.proofs.Links.{arcs_there}
use Rattle.design_phases.specs.DesignReading.{LinkedDesign}
use Rattle.refusals.specs.EarlyRefusals.{is_early}
use Rattle.refusals.specs.declared.refusal.Refusal.{Refusal}
use Rattle.delay_core.specs.DesignTiming.{slew_source}
use Rattle.delay_core.specs.EndsThere.{IsEndThere}
use Rattle.delay_core.specs.SlewPhase.{IsSlewRefusal, is_loop, is_outside, is_past_time, is_slew_limit, FindsSlews, no_slews}
use Rattle.delay_core.specs.TimingHalves.{TimesNets, stops_at_slews}
use Rattle.delay_core.specs.declared.settings.Settings.{Settings}

-- the arcs of a cycle are there
joined_there : (netlist : FlatNetlist) (cells : List NamedCells) (a b : ℕ) (walk : List ArcAt) → ArcsJoin netlist cells a walk b → All (IsArcAt netlist cells) walk
joined_there netlist cells a b [] join = All-nil (IsArcAt netlist cells)
joined_there netlist cells a b (at ∷ walk) join = All-cons (IsArcAt netlist cells) at walk join.0 (joined_there netlist cells join.2.0 b walk join.2.2)

-- so is the arc of a number
number_there : (source : SlewSource) (at : ArcAt) (arc : ℕ) → IsLinked source.cells source.netlist → at ≡ arc_number source arc → arc < length (arcs_in source) → IsArcAt source.netlist source.cells at
number_there source at arc linked is within =
    subst (IsArcAt source.netlist source.cells) (sym is)
    (All-get_or (IsArcAt source.netlist source.cells) (arcs_in source) arc no_arc_at within
    (arcs_there source.cells source.netlist linked (arcs_in source) (length source.netlist.instances) (omega arith) refl))

pub end_there : (source : SlewSource) (end : SlewEnd) → IsLinked source.cells source.netlist → IsSlewEnd source end → IsEndThere source.netlist source.cells end
end_there source (Loop cycle) linked is = joined_there source.netlist source.cells is.0 is.0 cycle is.1.1
end_there source (Outside at edge corner part outside) linked is = number_there source at is.1.0 linked is.1.1 is.1.2.refusal.has.within
end_there source (PastTime at edge corner part) linked is = number_there source at is.1.0 linked is.1.1 is.1.2.refusal.has.within
end_there source (SlewLimit net sink edge corner slew elmore) linked is =
    let limit = is.2.2.first.limit in
    record { net_there = limit.within; sink_there = limit.sink_within; pin = limit.pin }
end_there source OutOfMemory linked is = tt

pub is_late : (netlist : FlatNetlist) (cells : List NamedCells) (end : SlewEnd) (refusal : Refusal) → IsSlewRefusal netlist cells end refusal → IsTrue (is_early refusal) → ⊥
is_late netlist cells _ _ (is_loop cycle) early = cc
is_late netlist cells _ _ (is_outside at edge corner part past) early = cc
is_late netlist cells _ _ (is_past_time at edge corner part) early = cc
is_late netlist cells _ _ (is_slew_limit net sink instance pin edge corner slew elmore stands) early = cc

slews_late : (source : SlewSource) (refusal : Refusal) → FindsSlews source (Err refusal) → IsTrue (is_early refusal) → ⊥
slews_late source _ (no_slews end refusal is refused) early = is_late source.netlist source.cells end refusal refused early

-- so each refusal of what follows the loads and the Elmore sums is late
pub timing_late : (count : ℕ) (design : LinkedDesign) (nets : NetTimes) (settings : Settings) (refusal : Refusal) → TimesNets count design nets settings (Err refusal) → IsTrue (is_early refusal) → ⊥
timing_late count design nets settings _ (stops_at_slews refusal finds) early = slews_late (slew_source count design nets settings) refusal finds early
