-- `lookup` has one answer.
use Rattle.std.proofs.Common.{◌≡◌, ℕ, List, [], ◌∷◌, ◌++◌, Option, Some, None, ℤ, Result, Ok, Err, refl, sym, ap, ◌∙◌, subst}
use Rattle.std.specs.Prelude.{All, IfSome}
use Rattle.std.specs.List.{AllByRecursion, AllZip}
use Rattle.std.proofs.lemmas.List.Elements.{recursion_from_All}
use Rattle.delay_units.proofs.RoundingLemmas.{one_rounding_lem}
use Rattle.edge_io.specs.Holding.{Held}
use Rattle.edge_io.specs.Zipping.{one_zip}
use Rattle.liberty_groups.specs.Groups.{Group}
use Rattle.nldm_lookup.specs.Interpolant.{IsLookupEnd}
use Rattle.corner_set.specs.declared.choices.Beyond.{Beyond}
use Rattle.nldm_lookup.specs.declared.faults.LookupEnd.{LookupEnd}
use Rattle.nldm_lookup.specs.declared.grain.Grain.{Grain}
use Rattle.nldm_lookup.specs.declared.grain.Grain.TheVariants.{Atto, Femto}
use Rattle.nldm_lookup.specs.declared.faults.Outside.{Outside}
use Rattle.nldm_lookup.specs.Tables.{TimingTable, IsTable}
use Rattle.nldm_lookup.proofs.OneValue.{one_interpolant, value_or_end, one_lookup_lem}
use Rattle.cell_models.specs.Cells.{TimedCell}
use Rattle.cell_models.specs.declared.cell.Arc.{Arc}
use Rattle.cell_models.specs.declared.cell.EdgeTables.{EdgeTables}
use Rattle.cell_models.specs.declared.cell.Pin.{Pin}
use Rattle.timing_arcs.proofs.ModelTables.{AreTables, HasTables, model_tables}
use Rattle.command_rows.specs.declared.arc_rows.ArcRow.{ArcRow}
use Rattle.cell_models.specs.declared.edge.Edge.{Edge}
use Rattle.cell_models.specs.declared.edge.Edge.TheVariants.{Rise, Fall}
use Rattle.cell_models.specs.declared.edge.Part.{Part}
use Rattle.refusals.specs.declared.refusal.Refusal.{Refusal}
use Rattle.refusals.specs.declared.refusal.Refusal.TheVariants as refusal
use Rattle.command_rows.specs.ArcRows.{ArcEdge, edge_of, edges_of, arc_edges, IsNamed, IsArcRow, HasValues, IsEdgeEnd, at_delay, at_transition, IsEdgeRefusal, IsFirstRefused, AddsEdges, CellGives, all_valued, some_refused}
use Rattle.design_phases.specs.LibraryPhases.{ParsesLibrary, ModelsCell, has_model}
use Rattle.design_phases.specs.LibraryReading.{library_key}
use Rattle.command_rows.specs.CommandRows.{ReadsLib, ReadsArcs, at_library, at_cell, of_cell, LookupGives, at_library_reading, at_arcs, with_arc_rows}
use Rattle.refusals.specs.LookUps.{look_up_refusal}
use Rattle.refusals.specs.declared.look_ups.ArcNames.{ArcNames}
use Rattle.refusals.specs.OneStep.{HasOneAnswer}
use Rattle.design_phases.proofs.OneLibrary.{one_library_lem, one_cell_lem}
use Rattle.rc_tree.proofs.NetShapes.{first_without}
use Rattle.refusals.specs.Refused.{WithoutFile}
use Rattle.refusals.proofs.OneChain.{Steps, Then, stops, goes, one_plain, same_answers, one_then, one_by}
use Rattle.refusals.proofs.OneText.{one_file}
use Rattle.refusals.proofs.Places.{some_is}

-- ---- the rows

one_name : (pins : List Pin) (place : ℕ) (one other : List ℕ) → IsNamed pins place one → IsNamed pins place other → one ≡ other
one_name pins place one other r s = r.named ∙ ap (λ (p : Pin). p.name) (some_is r.pin s.pin (sym r.here ∙ s.here)) ∙ sym s.named

same_row : (one other : ArcRow) → one.from ≡ other.from → one.to ≡ other.to → one.edge ≡ other.edge → one.delay ≡ other.delay → one.slew.0 ≡ other.slew.0 → one ≡ other
same_row one other from to edge delay slew = λ i. record { from = from i; to = to i; edge = edge i; delay = delay i; slew = record { 0 = slew i } }

-- an edge with tables has one row
abbrev IsRow : List Pin → ℕ → ℕ → Beyond → ArcEdge → ArcRow → Type 0
IsRow pins slew load beyond at row = AreTables at.tables × IsArcRow pins slew load beyond at row

one_row : (pins : List Pin) (slew load : ℕ) (beyond : Beyond) (at : ArcEdge) (one other : ArcRow) → IsRow pins slew load beyond at one → IsRow pins slew load beyond at other → one ≡ other
one_row pins slew load beyond at one other (are, r) (also, s) =
    same_row one other
    (one_name pins at.arc.from one.from other.from r.from s.from)
    (one_name pins at.arc.to one.to other.to r.to s.to)
    (r.edge ∙ sym s.edge)
    (one_interpolant one_rounding_lem at.tables.delay slew load Femto beyond one.delay other.delay are.delay r.delay s.delay)
    (one_interpolant one_rounding_lem at.tables.slew slew load Atto beyond one.slew.0 other.slew.0 are.slew r.transition s.transition)

abbrev HasTablesAt : ArcEdge → Type 0
HasTablesAt at = AreTables at.tables

edge_has : (arc : Arc) (edge : Edge) (tables : Option EdgeTables) → IfSome tables AreTables → AllByRecursion HasTablesAt (edge_of arc edge tables)
edge_has arc edge None are = tt
edge_has arc edge (Some tables) are = (are, tt)

both_have : (one other : List ArcEdge) → AllByRecursion HasTablesAt one → AllByRecursion HasTablesAt other → AllByRecursion HasTablesAt (one ++ other)
both_have [] other are more = more
both_have (at ∷ one) other are more = (are.0, both_have one other are.1 more)

edges_have : (arcs : List Arc) → AllByRecursion HasTables arcs → AllByRecursion HasTablesAt (arc_edges arcs)
edges_have [] are = tt
edges_have (arc ∷ arcs) are =
    both_have (edges_of arc) (arc_edges arcs)
    (both_have (edge_of arc Rise arc.rise) (edge_of arc Fall arc.fall) (edge_has arc Rise arc.rise are.0.rise) (edge_has arc Fall arc.fall are.0.fall))
    (edges_have arcs are.1)

with_tables : (pins : List Pin) (slew load : ℕ) (beyond : Beyond) (edges : List ArcEdge) (rows : List ArcRow) → AllByRecursion HasTablesAt edges → AllZip (IsArcRow pins slew load beyond) edges rows → AllZip (IsRow pins slew load beyond) edges rows
with_tables pins slew load beyond [] [] are all = tt
with_tables pins slew load beyond [] (row ∷ rows) are all = absurd all
with_tables pins slew load beyond (at ∷ edges) [] are all = absurd all
with_tables pins slew load beyond (at ∷ edges) (row ∷ rows) are all = ((are.0, all.0), with_tables pins slew load beyond edges rows are.1 all.1)

one_rows : (pins : List Pin) (slew load : ℕ) (beyond : Beyond) (edges : List ArcEdge) (one other : List ArcRow) → AllByRecursion HasTablesAt edges → AddsEdges pins slew load beyond edges [] one → AddsEdges pins slew load beyond edges [] other → one ≡ other
one_rows pins slew load beyond edges one other are r s =
    r.is ∙ one_zip (IsRow pins slew load beyond) (one_row pins slew load beyond) edges r.added s.added (with_tables pins slew load beyond edges r.added are r.each) (with_tables pins slew load beyond edges s.added are s.each) ∙ sym s.is

-- ---- an edge with a table that has no value

valued_or_ended : (slew load : ℕ) (beyond : Beyond) (tables : EdgeTables) (part : Part) (end : LookupEnd) → AreTables tables → HasValues slew load beyond tables → IsEdgeEnd slew load beyond tables part end → ⊥
valued_or_ended slew load beyond tables _ end are valued (at_delay is) = value_or_end one_rounding_lem tables.delay slew load Femto beyond valued.delay.0 end are.delay valued.delay.1 is
valued_or_ended slew load beyond tables _ end are valued (at_transition has is) = value_or_end one_rounding_lem tables.slew slew load Atto beyond valued.transition.0 end are.slew valued.transition.1 is

abbrev ended : LookupEnd → Result ℤ LookupEnd
ended end = Err end

one_end : (table : TimingTable) (slew load : ℕ) (grain : Grain) (beyond : Beyond) (one other : LookupEnd) → IsTable table → IsLookupEnd table slew load grain beyond one → IsLookupEnd table slew load grain beyond other → one ≡ other
one_end table slew load grain beyond one other whole r s = let same : ended one ≡ ended other = one_lookup_lem one_rounding_lem table slew load grain beyond (Err one) (Err other) whole r s in cc

one_names : (one other : ArcNames) → one.instance ≡ other.instance → one.from ≡ other.from → one.to ≡ other.to → one ≡ other
one_names one other instance from to = λ i. record { instance = instance i; from = from i; to = to i }

one_refusal : (corner : ℕ) (cell : List ℕ) (pins : List Pin) (arc : Arc) (edge : Edge) (part : Part) (end : LookupEnd) (one two : Refusal) → IsEdgeRefusal corner cell pins arc edge part end one → IsEdgeRefusal corner cell pins arc edge part end two → one ≡ two
one_refusal corner cell pins arc edge part end one two r s =
    let names : r.names ≡ s.names =
    one_names r.names s.names (r.instance ∙ sym s.instance) (one_name pins arc.from r.names.from s.names.from r.from s.from) (one_name pins arc.to r.names.to s.names.to r.to s.to) in
    r.is ∙ ap (λ (n : ArcNames). look_up_refusal n edge corner part end) names ∙ sym s.is

same_refusal : (corner : ℕ) (cell : List ℕ) (pins : List Pin) (arc : Arc) (edge : Edge) (part : Part) (end other : LookupEnd) (one two : Refusal) → end ≡ other
    → IsEdgeRefusal corner cell pins arc edge part end one → IsEdgeRefusal corner cell pins arc edge part other two → one ≡ two
same_refusal corner cell pins arc edge part end other one two same r s =
    one_refusal corner cell pins arc edge part other one two (subst (λ (e : LookupEnd). IsEdgeRefusal corner cell pins arc edge part e one) same r) s

one_part : (corner : ℕ) (cell : List ℕ) (pins : List Pin) (arc : Arc) (edge : Edge) (slew load : ℕ) (beyond : Beyond) (tables : EdgeTables) (part more : Part) (end other : LookupEnd) (one two : Refusal) → AreTables tables
    → IsEdgeEnd slew load beyond tables part end → IsEdgeEnd slew load beyond tables more other → IsEdgeRefusal corner cell pins arc edge part end one → IsEdgeRefusal corner cell pins arc edge more other two → one ≡ two
one_part corner cell pins arc edge slew load beyond tables _ _ end other one two are (at_delay is) (at_delay its) r s =
    same_refusal corner cell pins arc edge _ end other one two (one_end tables.delay slew load Femto beyond end other are.delay is its) r s
one_part corner cell pins arc edge slew load beyond tables _ _ end other one two are (at_delay is) (at_transition has its) r s =
    absurd (value_or_end one_rounding_lem tables.delay slew load Femto beyond has.0 end are.delay has.1 is)
one_part corner cell pins arc edge slew load beyond tables _ _ end other one two are (at_transition has is) (at_delay its) r s =
    absurd (value_or_end one_rounding_lem tables.delay slew load Femto beyond has.0 other are.delay has.1 its)
one_part corner cell pins arc edge slew load beyond tables _ _ end other one two are (at_transition has is) (at_transition also its) r s =
    same_refusal corner cell pins arc edge _ end other one two (one_end tables.slew slew load Atto beyond end other are.slew is its) r s

-- the tables of the edges of a cell have all values, or the first edge with one that has none is one
module _ (corner : ℕ) (name : List ℕ) (pins : List Pin) (slew load : ℕ) (beyond : Beyond) where
  abbrev Valued : ArcEdge → Type 0
  Valued at = HasValues slew load beyond at.tables

  stands_for : (P : ArcEdge → Type 0) (front back : List ArcEdge) (at : ArcEdge) → AllByRecursion P (front ++ at ∷ back) → P at
  stands_for P [] back at all = all.0
  stands_for P (first ∷ front) back at all = stands_for P front back at all.1

  abbrev here_are : (edges : List ArcEdge) (refusal : Refusal) → AllByRecursion HasTablesAt edges → (is : IsFirstRefused corner name pins slew load beyond edges refusal) → AreTables is.here.tables
  here_are edges refusal have is = stands_for HasTablesAt is.before is.behind is.here (subst (AllByRecursion HasTablesAt) is.split have)

  no_refusal : (edges : List ArcEdge) (refusal : Refusal) → AllByRecursion HasTablesAt edges → All Valued edges → IsFirstRefused corner name pins slew load beyond edges refusal → ⊥
  no_refusal edges refusal have valued is =
      valued_or_ended slew load beyond is.here.tables is.part is.end (here_are edges refusal have is)
      (stands_for Valued is.before is.behind is.here (subst (AllByRecursion Valued) is.split (recursion_from_All Valued edges valued))) is.is_end

  abbrev IsRefusedAt : ArcEdge → Part → LookupEnd → Refusal → Type 0
  IsRefusedAt at part end refusal = IsEdgeEnd slew load beyond at.tables part end × IsEdgeRefusal corner name pins at.arc at.edge part end refusal

  refused_alike : (at : ArcEdge) (part more : Part) (end other : LookupEnd) (one two : Refusal) → AreTables at.tables → IsRefusedAt at part end one → IsRefusedAt at more other two → one ≡ two
  refused_alike at part more end other one two are r s = one_part corner name pins at.arc at.edge slew load beyond at.tables part more end other one two are r.0 s.0 r.1 s.1

  one_first : (edges : List ArcEdge) (one other : Refusal) → AllByRecursion HasTablesAt edges → IsFirstRefused corner name pins slew load beyond edges one → IsFirstRefused corner name pins slew load beyond edges other → one ≡ other
  one_first edges one other have r s =
      let same : r.here ≡ s.here =
      first_without Valued r.before r.behind s.before s.behind r.here s.here (sym r.split ∙ s.split) (recursion_from_All Valued r.before r.valued) (recursion_from_All Valued s.before s.valued)
      (λ valued. valued_or_ended slew load beyond r.here.tables r.part r.end (here_are edges one have r) valued r.is_end)
      (λ valued. valued_or_ended slew load beyond s.here.tables s.part s.end (here_are edges other have s) valued s.is_end) in
      refused_alike s.here r.part s.part r.end s.end one other (here_are edges other have s) (subst (λ (at : ArcEdge). IsRefusedAt at r.part r.end one) same (r.is_end, r.refused)) (s.is_end, s.refused)

one_giving : (corner : ℕ) (name : List ℕ) (cell : TimedCell) (slew load : ℕ) (beyond : Beyond) (one other : Result (List ArcRow) Refusal) → AllByRecursion HasTables cell.arcs → CellGives corner name cell slew load beyond one → CellGives corner name cell slew load beyond other → one ≡ other
one_giving corner name cell slew load beyond _ _ have (all_valued rows are) (all_valued more also) =
    ap Ok (one_rows cell.pins slew load beyond (arc_edges cell.arcs) rows more (edges_have cell.arcs have) are also)
one_giving corner name cell slew load beyond _ _ have (all_valued rows are) (some_refused refusal is) =
    absurd (no_refusal corner name cell.pins slew load beyond (arc_edges cell.arcs) refusal (edges_have cell.arcs have) are.valued is)
one_giving corner name cell slew load beyond _ _ have (some_refused refusal is) (all_valued rows are) =
    absurd (no_refusal corner name cell.pins slew load beyond (arc_edges cell.arcs) refusal (edges_have cell.arcs have) are.valued is)
one_giving corner name cell slew load beyond _ _ have (some_refused refusal is) (some_refused also its) =
    ap Err (one_first corner name cell.pins slew load beyond (arc_edges cell.arcs) refusal also (edges_have cell.arcs have) is its)

-- ---- what the bytes of a library say

abbrev tree : Group → Result Group Refusal
tree library = Ok library

abbrev no_tree : Refusal → Result Group Refusal
no_tree refusal = Err refusal

abbrev model : TimedCell → Result TimedCell Refusal
model cell = Ok cell

abbrev no_cell_model : Refusal → Result TimedCell Refusal
no_cell_model refusal = Err refusal

module _ (corner : ℕ) (name : List ℕ) (slew load : ℕ) (beyond : Beyond) (bytes : List ℕ) where
  same_tree : (one other : Group) → ParsesLibrary corner bytes (Ok one) → ParsesLibrary corner bytes (Ok other) → one ≡ other
  same_tree one other r s = let same : tree one ≡ tree other = one_library_lem corner bytes (Ok one) (Ok other) r s in cc

  tree_or_fault : (library : Group) (refusal : Refusal) → ParsesLibrary corner bytes (Ok library) → ParsesLibrary corner bytes (Err refusal) → ⊥
  tree_or_fault library refusal r s = let same : tree library ≡ no_tree refusal = one_library_lem corner bytes (Ok library) (Err refusal) r s in cc

  model_or_fault : (library other : Group) (cell : TimedCell) (refusal : Refusal) → library ≡ other → ModelsCell corner library name (Ok cell) → ModelsCell corner other name (Err refusal) → ⊥
  model_or_fault library other cell refusal same r s =
      let equal : model cell ≡ no_cell_model refusal = one_cell_lem corner other name (Ok cell) (Err refusal) (subst (λ (g : Group). ModelsCell corner g name (Ok cell)) same r) s in
      cc

  has_tables : (library : Group) (cell : TimedCell) → ModelsCell corner library name (Ok cell) → AllByRecursion HasTables cell.arcs
  has_tables library cell (has_model _ is) = model_tables library name cell is

  one_answer : (one other : Result (List ArcRow) Refusal) → ReadsArcs corner name slew load beyond bytes one → ReadsArcs corner name slew load beyond bytes other → one ≡ other
  one_answer _ _ (at_library refusal parses) (at_library also fails) =
      let same : no_tree refusal ≡ no_tree also = one_library_lem corner bytes (Err refusal) (Err also) parses fails in
      let equal : refusal ≡ also = cc in
      ap Err equal
  one_answer _ _ (at_library refusal parses) (at_cell library also says models) = absurd (tree_or_fault library refusal says parses)
  one_answer _ _ (at_library refusal parses) (of_cell library cell answer says models gives) = absurd (tree_or_fault library refusal says parses)
  one_answer _ _ (at_cell library refusal says models) (at_library also fails) = absurd (tree_or_fault library also says fails)
  one_answer _ _ (at_cell library refusal says models) (at_cell other also tells fails) =
      let same : no_cell_model refusal ≡ no_cell_model also =
      one_cell_lem corner other name (Err refusal) (Err also) (subst (λ (g : Group). ModelsCell corner g name (Err refusal)) (same_tree library other says tells) models) fails in
      let equal : refusal ≡ also = cc in
      ap Err equal
  one_answer _ _ (at_cell library refusal says models) (of_cell other cell answer tells makes gives) = absurd (model_or_fault other library cell refusal (same_tree other library tells says) makes models)
  one_answer _ _ (of_cell library cell answer says models gives) (at_library also fails) = absurd (tree_or_fault library also says fails)
  one_answer _ _ (of_cell library cell answer says models gives) (at_cell other also tells fails) = absurd (model_or_fault library other cell also (same_tree library other says tells) models fails)
  one_answer one other (of_cell library cell _ says models gives) (of_cell more also _ tells makes its) =
      let equal : model cell ≡ model also = one_cell_lem corner more name (Ok cell) (Ok also) (subst (λ (g : Group). ModelsCell corner g name (Ok cell)) (same_tree library more says tells) models) makes in
      let same : cell ≡ also = cc in
      one_giving corner name also slew load beyond one other (has_tables more also makes) (subst (λ (c : TimedCell). CellGives corner name c slew load beyond one) same gives) its

-- ---- the command

module _ (corners corner : ℕ) (held : Held) (file name : List ℕ) (slew load : ℕ) (beyond : Beyond) where
  -- the library is read, and then its bytes have an answer
  abbrev Looks : Steps (List ArcRow) → Type 0
  Looks step = Then (ReadsLib corners corner (Some held) file) (λ bytes. WithoutFile (ReadsArcs corner name slew load beyond bytes)) step

  lookup_view : (step : Steps (List ArcRow)) → LookupGives corners corner (Some held) file name slew load beyond step → Looks step
  lookup_view _ (at_library_reading why r) = stops why r refl
  lookup_view _ (at_arcs bytes refusal r are) = goes bytes r are
  lookup_view _ (with_arc_rows bytes rows r are) = goes bytes r are

  pub one_lookup : HasOneAnswer (LookupGives corners corner (Some held) file name slew load beyond)
  one_lookup = one_by (LookupGives corners corner (Some held) file name slew load beyond) Looks lookup_view
      (one_then (ReadsLib corners corner (Some held) file) (λ bytes. WithoutFile (ReadsArcs corner name slew load beyond bytes)) (one_file held (library_key corners corner) file)
      (λ bytes reads. one_plain (ReadsArcs corner name slew load beyond bytes) (λ one other r s. same_answers one other (one_answer corner name slew load beyond bytes one other r s))))
