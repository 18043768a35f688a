-- The delays of arcs of instances.
use Rattle.std.proofs.Common.{◌≡◌, ℕ, zero, suc, ◌^◌, Bool, true, false, nat_le, if◌then◌else◌, ap, sym, ◌∙◌, refl, List, [], ◌∷◌, get_or, slice_get, Option, Some, None, is_some, Ok, Err, ℤ, unsigned_abs, arith}
use Rattle.std.specs.Option.{option_map, option_map_or}
use Rattle.std.proofs.lemmas.Bool.{leb-true}
use Rattle.std.proofs.lemmas.Option.{get_or_from_slice_get}
use Rattle.cell_models.specs.Cells.{TimedCell}
use Rattle.cell_models.specs.CornerCells.{AreCornerCells, arcs_at}
use Rattle.cell_models.specs.NamedSets.{set_cells}
use Rattle.cell_models.specs.Shapes.{arc_entry}
use Rattle.cell_models.specs.declared.cell.Arc.{Arc}
use Rattle.cell_models.specs.declared.cell.EdgeTables.{EdgeTables}
use Rattle.cell_models.specs.declared.edge.Edge.{Edge}
use Rattle.cell_models.specs.declared.edge.Edge.TheVariants.{Rise, Fall}
use Rattle.delay_units.specs.declared.Femto.{Femto}
use Rattle.netlist_link.specs.FlatNetlist.{instance_at}
use Rattle.nldm_lookup.specs.declared.faults.LookupEnd.{LookupEnd}
use Rattle.nldm_lookup.specs.declared.faults.LookupEnd.TheVariants.{PastTime}
use Rattle.nldm_lookup.specs.declared.grain.Grain.TheVariants as grain
use Rattle.slew_states.specs.declared.states.PinState.{PinState}
use Rattle.slew_states.specs.declared.states.PinState.TheVariants.{Absent, Known, Stuck}
use Rattle.slew_order.specs.declared.arcs.ArcAt.{ArcAt}
use Rattle.slew_order.specs.FlatArcs.{no_arc, arcs_of, cell_arc, flat_at}
use Rattle.slew_order.specs.LivePaths.{delay_in, delay_by, if_value, input_state}
use Rattle.slew_order.specs.Lookups.{lookup_of, answer_of, axis_end, value_of}
use Rattle.slew_order.specs.Timings.{SlewSource, lookups_with, load_on, tables_of}
use Rattle.slew_order.proofs.CornerTables.{entry_tables}
use Rattle.slew_order.proofs.Links.{same_entry}
use Rattle.annotation_rows.specs.CellPaths.{arc_in}
use Rattle.annotation_rows.specs.PathRows.{TimedDesign, IsPrinted, arc_delay, arc_has, cell_arcs, states_of}

get_or_from_none : {X : Type 0} (xs : List X) (i : ℕ) (d : X) → slice_get xs i ≡ None → get_or xs i d ≡ d
get_or_from_none [] i d e = refl
get_or_from_none (x ∷ xs) zero d e = cc
get_or_from_none (x ∷ xs) (suc i) d e = get_or_from_none xs i d e

-- the value of a delay is its number
pub delay_is : (time : Femto) (answer : Option Femto) (value : Option ℤ) → answer ≡ Some time → option_map (λ (femto : Femto). femto.0) answer ≡ value
    → (let some : Option ℤ = Some time.0 in some ≡ value)
delay_is time answer value is held = sym (ap (λ a. option_map (λ (femto : Femto). femto.0) a) is) ∙ held

pub no_value : (answer : Option Femto) (value : Option ℤ) → answer ≡ None → option_map (λ (femto : Femto). femto.0) answer ≡ value
    → (let none : Option ℤ = None in none ≡ value)
no_value answer value is held = sym (ap (λ a. option_map (λ (femto : Femto). femto.0) a) is) ∙ held

none_there : (arc : Arc) (edge : Edge) → arc_has arc edge ≡ false → tables_of arc edge ≡ None
none_there arc Rise none = by arc.rise none
  where
    by : (tables : Option EdgeTables) → is_some tables ≡ false → tables ≡ None
    by None none = refl
    by (Some tables) none = cc
none_there arc Fall none = by arc.fall none
  where
    by : (tables : Option EdgeTables) → is_some tables ≡ false → tables ≡ None
    by None none = refl
    by (Some tables) none = cc

no_tables : (models : List TimedCell) (count corner i : ℕ) (edge : Edge) → AreCornerCells count models → arc_has (arc_in (arcs_at models 0) i) edge ≡ false
    → tables_of (get_or (arcs_at models corner) i no_arc) edge ≡ None
no_tables models count corner i edge whole none = by (slice_get (arcs_at models corner) i) refl
  where
    past : (edge : Edge) → tables_of no_arc edge ≡ None
    past Rise = refl
    past Fall = refl

    by : (found : Option Arc) → slice_get (arcs_at models corner) i ≡ found → tables_of (get_or (arcs_at models corner) i no_arc) edge ≡ None
    by None is = ap (λ a. tables_of a edge) (get_or_from_none (arcs_at models corner) i no_arc is) ∙ past edge
    by (Some arc) is =
        ap (λ a. tables_of a edge) (get_or_from_slice_get (arcs_at models corner) i arc no_arc is)
        ∙ none_there arc edge (entry_tables arc (arc_in (arcs_at models 0) i) edge (same_entry models count corner i arc whole is) ∙ none)

module _ (source : SlewSource) (corner : ℕ) (before : ℕ → Edge → PinState) (at : ArcAt) (edge : Edge) where
  no_delay_by : (state : PinState) → tables_of (cell_arc source.netlist source.cells at corner) edge ≡ None → delay_by source corner before state at edge ≡ None
  no_delay_by Absent none = refl
  no_delay_by (Known slew) none =
      ap (λ tables. delay_in (lookups_with source.beyond tables (load_on source corner (flat_at source.netlist source.cells at).target) slew)) none
  no_delay_by Stuck none = refl

  printed_answer : (end : Option LookupEnd) (value : ℤ) → IsPrinted (if_value (answer_of end grain.Femto value))
  printed_answer (Some end) value = tt
  printed_answer None value = by (nat_le (unsigned_abs value) (10 ^ 9)) refl
    where
      by : (b : Bool) → nat_le (unsigned_abs value) (10 ^ 9) ≡ b → IsPrinted (if_value (if b then Ok value else Err PastTime))
      by true is = let small = leb-true (unsigned_abs value) (10 ^ 9) is in omega (arith, small)
      by false is = tt

  printed_with : (tables : Option EdgeTables) (load : Option ℕ) (slew : ℕ) → IsPrinted (delay_in (lookups_with source.beyond tables load slew))
  unfolding lookup_of
  printed_with None load slew = tt
  printed_with (Some tables) None slew = tt
  printed_with (Some tables) (Some load) slew = printed_answer (axis_end tables.delay slew load source.beyond) (value_of tables.delay slew load grain.Femto source.beyond)

  printed_by : (state : PinState) → IsPrinted (delay_by source corner before state at edge)
  printed_by Absent = tt
  printed_by (Known slew) = printed_with (tables_of (cell_arc source.netlist source.cells at corner) edge) (load_on source corner (flat_at source.netlist source.cells at).target) slew
  printed_by Stuck = tt

module _ (design : TimedDesign) (instance arc : ℕ) (edge : Edge) (corner : ℕ) where
  abbrev place : ArcAt
  place = record { instance = instance; arc = arc }

  pub printed : IsPrinted (arc_delay design instance arc edge corner)
  printed = printed_by design.source corner (states_of design corner) place edge (input_state design.source corner (states_of design corner) place edge)

  -- an arc without an edge has no delay there
  pub no_edge : (count : ℕ) (models : List TimedCell) → slice_get (set_cells design.source.cells) (instance_at design.source.netlist instance).cell ≡ Some models
      → AreCornerCells count models → arc_has (arc_in (cell_arcs design instance) arc) edge ≡ false → arc_delay design instance arc edge corner ≡ None
  no_edge count models here whole none =
      let at_first : cell_arcs design instance ≡ arcs_at models 0 = ap (λ found. option_map_or (λ m. arcs_at m 0) found []) here in
      let at_corner : arcs_of design.source.cells (instance_at design.source.netlist instance).cell corner ≡ arcs_at models corner =
      ap (λ found. option_map_or (λ m. arcs_at m corner) found []) here in
      let tables : tables_of (cell_arc design.source.netlist design.source.cells place corner) edge ≡ None =
      ap (λ arcs. tables_of (get_or arcs arc no_arc) edge) at_corner
      ∙ no_tables models count corner arc edge whole (ap (λ arcs. arc_has (arc_in arcs arc) edge) (sym at_first) ∙ none) in
      no_delay_by design.source corner (states_of design corner) place edge (input_state design.source corner (states_of design corner) place edge) tables
