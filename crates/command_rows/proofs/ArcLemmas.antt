-- Rows of arcs, edge after edge.
use Rattle.std.proofs.Common.{◌≡◌, ℕ, ◌+◌, ◌<◌, ◌≤◌, List, [], ◌∷◌, ◌++◌, length, append_assoc, take, drop, get_or, ℤ, Result, Ok, Err, refl, sym, ap, ◌∙◌, subst, arith, length-append}
use Rattle.std.specs.Prelude.{IsErrAnd, IsTrue}
use Rattle.std.specs.List.{AllZip}
use Rattle.std.proofs.lemmas.List.{append-nil, take_more, take-append-drop, take_all}
use Rattle.std.proofs.lemmas.List.Elements.{All-from_recursion, All-append}
use Rattle.std.proofs.lemmas.Grind.{flat_map-append}
use Rattle.std.proofs.lemmas.Option.{slice_get_within, slice_get_read}
use Rattle.delay_units.specs.declared.quantities.Atto.{Atto as AttoSeconds}
use Rattle.nldm_lookup.specs.Interpolant.{IsInterpolant}
use Rattle.corner_set.specs.declared.choices.Beyond.{Beyond}
use Rattle.nldm_lookup.specs.declared.faults.LookupEnd.{LookupEnd}
use Rattle.nldm_lookup.specs.declared.faults.LookupEnd.TheVariants as lookup_end
use Rattle.nldm_lookup.specs.declared.grain.Grain.TheVariants.{Atto, Femto}
use Rattle.cell_models.specs.Cells.{TimedCell, IsCell, HasDirection}
use Rattle.cell_models.specs.declared.cell.Arc.{Arc}
use Rattle.cell_models.specs.declared.cell.Direction.{Direction}
use Rattle.cell_models.specs.declared.cell.Direction.TheVariants.{Input, Output}
use Rattle.cell_models.specs.declared.cell.EdgeTables.{EdgeTables}
use Rattle.cell_models.specs.declared.cell.Pin.{Pin}
use Rattle.verdict_phases.specs.Phases.{FollowsNoFile}
use Rattle.verdict_phases.specs.declared.ends.NoFileEnd.{NoFileEnd}
use Rattle.verdict_phases.specs.declared.ends.NoFileEnd.TheVariants as no_file
use Rattle.command_rows.specs.declared.arc_rows.ArcRow.{ArcRow}
use Rattle.command_rows.specs.declared.arc_rows.Looked.{Looked}
use Rattle.cell_models.specs.declared.edge.Edge.{Edge}
use Rattle.cell_models.specs.declared.edge.Part.{Part}
use Rattle.refusals.specs.declared.refusal.Refusal.{Refusal}
use Rattle.refusals.specs.LookUps.{look_up_refusal}
use Rattle.refusals.specs.declared.look_ups.ArcNames.{ArcNames}
use Rattle.command_rows.specs.ArcRows.{ArcEdge, IsNamed, edges_of, arc_edges, IsArcRow, HasValues, IsEdgeEnd, IsEdgeRefusal, IsFirstRefused, AddsEdges, CellGives, all_valued, some_refused}
use Rattle.refusals.specs.EarlyRefusals.{is_early}
use Rattle.command_rows.specs.Looking.{IsLooked, IsRowOf}
use Rattle.refusals.specs.Refused.{OnRefusal}

zip_append : {X Y : Type 0} (R : X → Y → Type 0) (xs more : List X) (ys others : List Y) → AllZip R xs ys → AllZip R more others → AllZip R (xs ++ more) (ys ++ others)
zip_append R [] more [] others are then = then
zip_append R [] more (y ∷ ys) others are then = absurd are
zip_append R (x ∷ xs) more [] others are then = absurd are
zip_append R (x ∷ xs) more (y ∷ ys) others are then = (are.0, zip_append R xs more ys others are.1 then)

module _ (pins : List Pin) (slew load : ℕ) (beyond : Beyond) where
  abbrev pub Valued : ArcEdge → Type 0
  Valued edge = HasValues slew load beyond edge.tables

  -- no edge adds no row
  pub adds_none : (rows : List ArcRow) → AddsEdges pins slew load beyond [] rows rows
  adds_none rows = record { added = []; is = sym (append-nil rows); each = tt; valued = All-from_recursion Valued [] tt }

  -- some edges after others
  pub adds_then : (edges more : List ArcEdge) (before middle after : List ArcRow) → AddsEdges pins slew load beyond edges before middle → AddsEdges pins slew load beyond more middle after → AddsEdges pins slew load beyond (edges ++ more) before after
  adds_then edges more before middle after one other = record {
    added = one.added ++ other.added;
    is = other.is ∙ ap (λ rows. rows ++ other.added) one.is ∙ append_assoc before one.added other.added;
    each = zip_append (IsArcRow pins slew load beyond) edges more one.added other.added one.each other.each;
    valued = All-append Valued edges more one.valued other.valued;
  }

  -- an edge that is refused among the first of some edges, and behind some that are not
  pub refused_front : (corner : ℕ) (cell : List ℕ) (edges more : List ArcEdge) (refusal : Refusal) → IsFirstRefused corner cell pins slew load beyond edges refusal → IsFirstRefused corner cell pins slew load beyond (edges ++ more) refusal
  refused_front corner cell edges more refusal is = record {
    before = is.before;
    here = is.here;
    behind = is.behind ++ more;
    split = ap (λ l. l ++ more) is.split ∙ append_assoc is.before (is.here ∷ is.behind) more;
    valued = is.valued;
    part = is.part;
    end = is.end;
    is_end = is.is_end;
    refused = is.refused;
  }

  pub refused_then : (corner : ℕ) (cell : List ℕ) (edges more : List ArcEdge) (before after : List ArcRow) (refusal : Refusal) → AddsEdges pins slew load beyond edges before after → IsFirstRefused corner cell pins slew load beyond more refusal → IsFirstRefused corner cell pins slew load beyond (edges ++ more) refusal
  refused_then corner cell edges more before after refusal adds is = record {
    before = edges ++ is.before;
    here = is.here;
    behind = is.behind;
    split = ap (λ l. edges ++ l) is.split ∙ sym (append_assoc edges is.before (is.here ∷ is.behind));
    valued = All-append Valued edges is.before adds.valued is.valued;
    part = is.part;
    end = is.end;
    is_end = is.is_end;
    refused = is.refused;
  }

  -- the row of one edge
  pub adds_one : (arc : Arc) (edge : Edge) (tables : EdgeTables) (looked : Looked) (rows after : List ArcRow) (row : ArcRow) → IsLooked slew load beyond tables looked → IsRowOf pins arc edge looked row → after ≡ rows ++ row ∷ []
      → AddsEdges pins slew load beyond (record { arc = arc; edge = edge; tables = tables } ∷ []) rows after
  adds_one arc edge tables looked rows after row says is e = record {
    added = row ∷ [];
    is = e;
    each = (
      record {
        from = is.from;
        to = is.to;
        edge = is.same_edge;
        delay = subst (λ (v : ℤ). IsInterpolant tables.delay slew load Femto beyond v) (sym is.delay) says.delay;
        transition = subst (λ (v : AttoSeconds). IsInterpolant tables.slew slew load Atto beyond v.0) (sym is.slew) says.transition;
      },
      tt,
    );
    valued = All-from_recursion Valued (record { arc = arc; edge = edge; tables = tables } ∷ [])
        (record { delay = (looked.delay, says.delay); transition = (looked.slew.0, says.transition) }, tt);
  }

  -- one edge that is refused
  pub refused_one : (corner : ℕ) (cell : List ℕ) (arc : Arc) (edge : Edge) (tables : EdgeTables) (part : Part) (end : LookupEnd) (refusal : Refusal) → IsEdgeEnd slew load beyond tables part end → IsEdgeRefusal corner cell pins arc edge part end refusal
      → IsFirstRefused corner cell pins slew load beyond (record { arc = arc; edge = edge; tables = tables } ∷ []) refusal
  refused_one corner cell arc edge tables part end refusal is refused = record {
    before = [];
    here = record { arc = arc; edge = edge; tables = tables };
    behind = [];
    split = refl;
    valued = All-from_recursion Valued [] tt;
    part = part;
    end = end;
    is_end = is;
    refused = refused;
  }

-- the edges of one arc more
pub edges_more : (arcs : List Arc) (i : ℕ) (arc : Arc) → i < length arcs → arc ≡ get_or arcs i arc → arc_edges (take (i + 1) arcs) ≡ arc_edges (take i arcs) ++ edges_of arc
edges_more arcs i arc below here =
    ap arc_edges (take_more arcs i arc below) ∙ flat_map-append edges_of (take i arcs) (get_or arcs i arc ∷ [])
    ∙ ap (λ edges. arc_edges (take i arcs) ++ edges) (append-nil (edges_of (get_or arcs i arc)))
    ∙ ap (λ (a : Arc). arc_edges (take i arcs) ++ edges_of a) (sym here)

pub edges_front : (arcs : List Arc) (i : ℕ) → arc_edges arcs ≡ arc_edges (take i arcs) ++ arc_edges (drop i arcs)
edges_front arcs i = ap arc_edges (sym (take-append-drop i arcs)) ∙ flat_map-append edges_of (take i arcs) (drop i arcs)

pub count_more : (arcs : List Arc) (i : ℕ) (arc : Arc) → i < length arcs → arc ≡ get_or arcs i arc → length (arc_edges (take (i + 1) arcs)) ≡ length (arc_edges (take i arcs)) + length (edges_of arc)
count_more arcs i arc below here = ap length (edges_more arcs i arc below here) ∙ length-append (arc_edges (take i arcs)) (edges_of arc)

-- the pins of an arc stand among those of its cell
pin_within : (pins : List Pin) (place : ℕ) (direction : Direction) → HasDirection pins place direction → place < length pins
pin_within pins place direction is = slice_get_within pins place is.pin is.here

pub from_within : (cell : TimedCell) (i : ℕ) (arc : Arc) → IsCell cell → i < length cell.arcs → arc ≡ get_or cell.arcs i arc → arc.from < length cell.pins
from_within cell i arc is below here = subst (λ (a : Arc). a.from < length cell.pins) (sym here) (pin_within cell.pins _ Input (is.arcs i arc below).from)

pub to_within : (cell : TimedCell) (i : ℕ) (arc : Arc) → IsCell cell → i < length cell.arcs → arc ≡ get_or cell.arcs i arc → arc.to < length cell.pins
to_within cell i arc is below here = subst (λ (a : Arc). a.to < length cell.pins) (sym here) (pin_within cell.pins _ Output (is.arcs i arc below).to)

-- a refusal that is handed on
on_refusal : (A B : Type 0) (end : NoFileEnd Refusal) (P Q : Refusal → Type 0) → OnRefusal {A = A} (Err end) P → ((refusal : Refusal) → P refusal → Q refusal) → OnRefusal {A = B} (Err end) Q
on_refusal A B (no_file.Refused refusal) P Q holds more = more refusal holds
on_refusal A B no_file.OutOfMemory P Q holds more = tt

pub refusal_on : (A B : Type 0) (result : Result B (NoFileEnd Refusal)) (end : NoFileEnd Refusal) (P Q : Refusal → Type 0) → IsErrAnd result (λ other. other ≡ end) → OnRefusal {A = A} (Err end) P → ((refusal : Refusal) → P refusal → Q refusal) → OnRefusal result Q
refusal_on A B (Ok value) end P Q is holds more = tt
refusal_on A B (Err other) end P Q is holds more = on_refusal A B other P Q (subst (λ (e : NoFileEnd Refusal). OnRefusal {A = A} (Err e) P) (sym is) holds) more

on_refused : (corner : ℕ) (name : List ℕ) (cell : TimedCell) (slew load : ℕ) (beyond : Beyond) (end : NoFileEnd Refusal) → OnRefusal {A = List ArcRow} (Err end) (IsFirstRefused corner name cell.pins slew load beyond (arc_edges cell.arcs)) → FollowsNoFile (CellGives corner name cell slew load beyond) (Err end)
on_refused corner name cell slew load beyond (no_file.Refused refusal) is = some_refused refusal is
on_refused corner name cell slew load beyond no_file.OutOfMemory is = tt

pub refusal_passes : (A : Type 0) (corner : ℕ) (name : List ℕ) (cell : TimedCell) (slew load : ℕ) (beyond : Beyond) (result : Result (List ArcRow) (NoFileEnd Refusal)) (end : NoFileEnd Refusal) (P : Refusal → Type 0) → IsErrAnd result (λ other. other ≡ end) → OnRefusal {A = A} (Err end) P
    → ((refusal : Refusal) → P refusal → IsFirstRefused corner name cell.pins slew load beyond (arc_edges cell.arcs) refusal) → FollowsNoFile (CellGives corner name cell slew load beyond) result
refusal_passes A corner name cell slew load beyond (Ok value) end P is holds more = absurd is
refusal_passes A corner name cell slew load beyond (Err other) end P is holds more =
    on_refused corner name cell slew load beyond other
    (on_refusal A (List ArcRow) other P (IsFirstRefused corner name cell.pins slew load beyond (arc_edges cell.arcs)) (subst (λ (e : NoFileEnd Refusal). OnRefusal {A = A} (Err e) P) (sym is) holds) more)

-- an arc with an edge that is refused, behind arcs that have none
pub refused_in : (corner : ℕ) (name : List ℕ) (cell : TimedCell) (slew load : ℕ) (beyond : Beyond) (pins : List Pin) (arcs : List Arc) (i : ℕ) (arc : Arc) (rows : List ArcRow) (refusal : Refusal) → pins ≡ cell.pins → arcs ≡ cell.arcs → i < length arcs → arc ≡ get_or arcs i arc
    → AddsEdges pins slew load beyond (arc_edges (take i arcs)) [] rows → IsFirstRefused corner name pins slew load beyond (edges_of arc) refusal → IsFirstRefused corner name cell.pins slew load beyond (arc_edges cell.arcs) refusal
refused_in corner name cell slew load beyond pins arcs i arc rows refusal pins_are arcs_are below here adds is =
    let front = arc_edges (take i arcs) in
    let whole : arc_edges arcs ≡ (front ++ edges_of arc) ++ arc_edges (drop (i + 1) arcs) =
    edges_front arcs (i + 1) ∙ ap (λ edges. edges ++ arc_edges (drop (i + 1) arcs)) (edges_more arcs i arc below here) in
    let first : IsFirstRefused corner name pins slew load beyond (arc_edges arcs) refusal =
    subst (λ (edges : List ArcEdge). IsFirstRefused corner name pins slew load beyond edges refusal) (sym whole)
    (refused_front pins slew load beyond corner name (front ++ edges_of arc) (arc_edges (drop (i + 1) arcs)) refusal (refused_then pins slew load beyond corner name front (edges_of arc) [] rows refusal adds is)) in
    subst (λ (p : List Pin). IsFirstRefused corner name p slew load beyond (arc_edges cell.arcs) refusal) pins_are
    (subst (λ (a : List Arc). IsFirstRefused corner name pins slew load beyond (arc_edges a) refusal) arcs_are first)

-- the edges up to an arc are no more than all
pub count_within : (arcs : List Arc) (i : ℕ) (arc : Arc) → i < length arcs → arc ≡ get_or arcs i arc → length (arc_edges (take i arcs)) + length (edges_of arc) ≤ length (arc_edges arcs)
count_within arcs i arc below here =
    let front = ap length (edges_front arcs (i + 1)) ∙ length-append (arc_edges (take (i + 1) arcs)) (arc_edges (drop (i + 1) arcs)) in
    let more = count_more arcs i arc below here in
    omega (arith, front, more)

-- the rows of one arc more
pub adds_more : (pins : List Pin) (slew load : ℕ) (beyond : Beyond) (arcs : List Arc) (i : ℕ) (arc : Arc) (rows after : List ArcRow) → i < length arcs → arc ≡ get_or arcs i arc → AddsEdges pins slew load beyond (arc_edges (take i arcs)) [] rows → AddsEdges pins slew load beyond (edges_of arc) rows after
    → AddsEdges pins slew load beyond (arc_edges (take (i + 1) arcs)) [] after
adds_more pins slew load beyond arcs i arc rows after below here front more =
    subst (λ (edges : List ArcEdge). AddsEdges pins slew load beyond edges [] after) (sym (edges_more arcs i arc below here)) (adds_then pins slew load beyond (arc_edges (take i arcs)) (edges_of arc) [] rows after front more)

-- the rows of all arcs
pub gives_all : (corner : ℕ) (name : List ℕ) (cell : TimedCell) (slew load : ℕ) (beyond : Beyond) (pins : List Pin) (arcs : List Arc) (i : ℕ) (rows : List ArcRow) → pins ≡ cell.pins → arcs ≡ cell.arcs → length arcs ≤ i → AddsEdges pins slew load beyond (arc_edges (take i arcs)) [] rows
    → CellGives corner name cell slew load beyond (Ok rows)
gives_all corner name cell slew load beyond pins arcs i rows pins_are arcs_are all adds =
    all_valued rows
    (subst (λ (p : List Pin). AddsEdges p slew load beyond (arc_edges cell.arcs) [] rows) pins_are
    (subst (λ (a : List Arc). AddsEdges pins slew load beyond (arc_edges a) [] rows) (take_all i arcs all ∙ arcs_are) adds))

-- that a table has no value comes after the tables are read
pub rows_late : (corner : ℕ) (name : List ℕ) (cell : TimedCell) (slew load : ℕ) (beyond : Beyond) (refusal : Refusal) → CellGives corner name cell slew load beyond (Err refusal) → IsTrue (is_early refusal) → ⊥
rows_late corner name cell slew load beyond refusal (some_refused same is) early = late name cell.pins is.here.arc is.here.edge is.part is.end refusal is.refused early
  where
    none_early : (names : ArcNames) (edge : Edge) (part : Part) (end : LookupEnd) → IsTrue (is_early (look_up_refusal names edge corner part end)) → ⊥
    none_early names edge part (lookup_end.Outside outside) early = cc
    none_early names edge part lookup_end.PastTime early = cc

    late : (name : List ℕ) (pins : List Pin) (arc : Arc) (edge : Edge) (part : Part) (end : LookupEnd) (refusal : Refusal) → IsEdgeRefusal corner name pins arc edge part end refusal → IsTrue (is_early refusal) → ⊥
    late name pins arc edge part end refusal is early = none_early is.names edge part end (subst (λ (r : Refusal). IsTrue (is_early r)) is.is early)

-- the pin at a place has its name
pub is_named : (pins : List Pin) (place : ℕ) (pin : Pin) (name : List ℕ) → place < length pins → pin ≡ get_or pins place pin → name ≡ (get_or pins place pin).name → IsNamed pins place name
is_named pins place pin name below is named = record { pin = pin; here = slice_get_read pins (length pins) place pin refl below is; named = named ∙ ap (λ (p : Pin). p.name) (sym is) }
