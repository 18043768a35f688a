-- An arc with a worst input slew has a delay, where no look-up is refused.
use Rattle.std.proofs.Common.{◌≡◌, ℕ, ◌∙◌, ap, sym, refl, Option, Some, None, Result, Ok, Err, ℤ}
use Rattle.std.specs.Prelude.{IsSome}
use Rattle.std.proofs.lemmas.Bool.{false≢true}
use Rattle.cell_models.specs.declared.cell.EdgeTables.{EdgeTables}
use Rattle.nldm_lookup.specs.declared.faults.LookupEnd.{LookupEnd}
use Rattle.slew_states.specs.Arcs.{arc_at, has_edge}
use Rattle.slew_states.specs.PinState.{worst}
use Rattle.slew_states.specs.Settled.{states_in}
use Rattle.slew_states.specs.declared.states.PinState.TheVariants.{Known}
use Rattle.slew_order.specs.declared.lookups.EdgeLookups.{EdgeLookups}
use Rattle.slew_order.specs.declared.lookups.PartEnd.{PartEnd}
use Rattle.slew_order.specs.FlatArcs.{cell_arc, flat_at}
use Rattle.slew_order.specs.LivePaths.{delay_by, delay_in, if_value, input_state}
use Rattle.slew_order.specs.NetStates.{states_at}
use Rattle.slew_order.specs.SlewEnds.{HasWorst}
use Rattle.slew_order.specs.SlewLaws.{LiveDelays}
use Rattle.slew_order.specs.Timings.{SlewSource, arcs_in, first_end, flat_in, load_on, lookups_at, lookups_with, refused_of, tables_of, wire_at}
use Rattle.slew_order.proofs.Cycling.{flat_is, number_of}
use Rattle.slew_order.proofs.Links.{have_nets}
use Rattle.slew_order.proofs.Refusing.{worst_is}
use Rattle.slew_order.proofs.SlewLaws.{all_there, worst_at_pins}

-- where neither look-up is refused there is a delay
has_value : (delay transition : Result ℤ LookupEnd) → ((end : PartEnd) → first_end delay transition ≡ Some end → ⊥) → (value : ℤ) × (if_value delay ≡ Some value)
has_value (Ok value) transition none = (value, refl)
has_value (Err end) transition none = absurd (none _ refl)

has_delay : (looked : Option EdgeLookups) → IsSome looked → ((end : PartEnd) → refused_of looked ≡ Some end → ⊥) → (value : ℤ) × (delay_in looked ≡ Some value)
has_delay None some none = absurd (false≢true some)
has_delay (Some looked) some none = has_value looked.delay looked.transition none

-- there are look-ups where there are tables and a load
some_lookups : (source : SlewSource) (corner : ℕ) (tables : Option EdgeTables) (target : Option ℕ) (slew : ℕ) → IsSome tables → IsSome target
    → IsSome (lookups_with source.beyond tables (load_on source corner target) slew)
some_lookups source corner None target slew tables loaded = absurd (false≢true tables)
some_lookups source corner (Some these) None slew tables loaded = absurd (false≢true loaded)
some_lookups source corner (Some these) (Some net) slew tables loaded = refl

pub live_delays : LiveDelays
live_delays source tables are at edge corner there below input =
    let before = states_in (states_at tables.corners corner) in
    let n = number_of source (all_there source are.source_is) at there in
    let flat : arc_at (flat_in source) n.arc ≡ flat_at source.netlist source.cells at =
    flat_is source (all_there source are.source_is) n.arc n.within ∙ ap (flat_at source.netlist source.cells) n.is in
    let known : Known input.slew ≡ worst (wire_at source corner) before n.arc (arc_at (flat_in source) n.arc) edge =
    sym (worst_at_pins source are.source_is are.related n.arc corner before edge n.within ∙ ap (λ a. input_state source corner before a edge) n.is ∙ input.known) in
    let whole = worst_is source corner (flat_in source) (states_at tables.corners corner) n.arc refl
    (have_nets source.cells source.netlist are.source_is.linked (arcs_in source)) (are.states.each corner below) n.within corner edge (Known input.slew) refl known in
    let has : HasWorst source n.arc edge corner input.slew = record { within = n.within; at_corner = below; here = ap (λ f. has_edge f edge) flat ∙ input.here; known = sym whole } in
    let found = has_delay (lookups_at source corner at edge input.slew)
    (some_lookups source corner (tables_of (cell_arc source.netlist source.cells at corner) edge) (flat_at source.netlist source.cells at).target input.slew input.tables input.loaded)
    (λ end is. are.no_refusal n.arc edge n.within corner below end
    (record { worst_slew = input.slew; has = has; refused = ap (λ a. refused_of (lookups_at source corner a edge input.slew)) n.is ∙ is })) in
    (found.0, ap (λ s. delay_by source corner before s at edge) input.known ∙ found.1)
