-- A cell's model, from its parts.
use Rattle.std.proofs.Common.{◌≡◌, ℕ, List, [], ◌∷◌, ◌++◌, Option, Some, All, sym, ap, ◌∙◌, subst, codes}
use Rattle.std.specs.List.{flat_map, AllZip}
use Rattle.std.proofs.lemmas.List.Elements.{All-cons, All-append}
use Rattle.liberty_groups.specs.Groups.{Group}
use Rattle.liberty_groups.specs.Tables.{Tables}
use Rattle.liberty_groups.specs.declared.rows.GroupId.{GroupId}
use Rattle.cell_models.specs.declared.cell.Pin.{Pin}
use Rattle.cell_models.specs.declared.cell.Arc.{Arc}
use Rattle.liberty_tables.specs.declared.faults.CellFault.{CellFault}
use Rattle.cell_models.specs.Cells.{TimedCell}
use Rattle.liberty_tables.specs.Library.{cell_group, group_for}
use Rattle.liberty_tables.specs.LibraryUnits.{AreUnits}
use Rattle.liberty_tables.specs.declared.library_units.LibraryUnits.{LibraryUnits}
use Rattle.timing_arcs.specs.PinModel.{PinEntry, pins_of, IsPin}
use Rattle.timing_arcs.specs.PinTable.{entries_in, ArePins}
use Rattle.timing_arcs.specs.DelayGroups.{delays_in, delays_of, arcs_in, arcs_of, IsArc}
use Rattle.timing_arcs.specs.LibraryBasis.{AreAdded}
use Rattle.timing_arcs.specs.CellModel.{names_of, IsModel}
use Rattle.timing_arcs.specs.BuiltParts.{AreArcsOf, IsModelOf}
use Rattle.timing_arcs.specs.CellFaults.{time_unit, load_unit, time_known, load_known, unit_questions, pin_questions, delay_questions, cell_questions, IsSound, IsRefusal, IsCellFault, fault_of}
use Rattle.timing_arcs.proofs.PinLemmas.{names_of_entries}
use Rattle.timing_arcs.proofs.AddingLemmas.{parts_in_parts}
use Rattle.timing_arcs.proofs.Refusals.{refused_before, refused_behind, sound_one}

pub arcs_of_all : (library : Group) (names : List (List ℕ)) (pins : List PinEntry) (arcs : List Arc)
    → AreAdded library names (flat_map (λ (x : PinEntry). flat_map (arcs_in pins) (delays_in x)) pins) (flat_map (λ (x : PinEntry). flat_map (delay_questions pins) (delays_in x)) pins) [] arcs → AreArcsOf library names pins arcs
arcs_of_all library names pins arcs added = record {
  sound = subst (All (IsSound library)) (parts_in_parts (delay_questions pins) delays_in pins) added.sound;
  built = subst (λ l. AllZip (IsArc library names) l arcs) (parts_in_parts (arcs_in pins) delays_in pins) (added.arcs [] tt);
}

-- the model of the cell of a group
pub model_of_group : (library : Group) (tree : Tables) (cell : Group) (names : List (List ℕ)) (ids : List GroupId) (pins : List Pin) (arcs : List Arc) → ArePins tree cell names ids
    → AllZip (IsPin library) (entries_in tree names ids) pins → All (IsSound library) (flat_map pin_questions (entries_in tree names ids)) → AreArcsOf library names (entries_in tree names ids) arcs
    → IsModelOf library cell (record { pins = pins; arcs = arcs })
unfolding cell_questions arcs_of delays_of
model_of_group library tree cell names ids pins arcs are built sound also =
    let entries = entries_in tree names ids in
    let same_names : names ≡ names_of (pins_of cell) = sym (names_of_entries tree names ids are.even) ∙ ap names_of are.entries in
    record {
      sound = subst (λ p. All (IsSound library) (flat_map pin_questions p ++ flat_map (delay_questions p) (flat_map delays_in p))) are.entries
          (All-append (IsSound library) (flat_map pin_questions entries) (flat_map (delay_questions entries) (flat_map delays_in entries)) sound also.sound);
      pins = subst (λ p. AllZip (IsPin library) p pins) are.entries built;
      arcs = subst (λ p. AllZip (IsArc library (names_of (pins_of cell))) (flat_map (arcs_in p) (flat_map delays_in p)) arcs) are.entries
          (subst (λ n. AllZip (IsArc library n) (flat_map (arcs_in entries) (flat_map delays_in entries)) arcs) same_names also.built);
    }

pub refused_pins : (library : Group) (tree : Tables) (cell : Group) (names : List (List ℕ)) (ids : List GroupId) (fault : CellFault) → ArePins tree cell names ids
    → IsRefusal library (flat_map pin_questions (entries_in tree names ids)) fault → IsRefusal library (cell_questions cell) fault
unfolding cell_questions delays_of
refused_pins library tree cell names ids fault are refused =
    let entries = entries_in tree names ids in
    subst (λ p. IsRefusal library (flat_map pin_questions p ++ flat_map (delay_questions p) (flat_map delays_in p)) fault) are.entries
    (refused_before (flat_map pin_questions entries) (flat_map (delay_questions entries) (flat_map delays_in entries)) refused)

pub refused_arcs : (library : Group) (tree : Tables) (cell : Group) (names : List (List ℕ)) (ids : List GroupId) (fault : CellFault) → ArePins tree cell names ids
    → All (IsSound library) (flat_map pin_questions (entries_in tree names ids))
    → IsRefusal library (flat_map (delay_questions (entries_in tree names ids)) (flat_map delays_in (entries_in tree names ids))) fault → IsRefusal library (cell_questions cell) fault
unfolding cell_questions delays_of
refused_arcs library tree cell names ids fault are sound refused =
    let entries = entries_in tree names ids in
    subst (λ p. IsRefusal library (flat_map pin_questions p ++ flat_map (delay_questions p) (flat_map delays_in p)) fault) are.entries
    (refused_behind (flat_map pin_questions entries) (flat_map (delay_questions entries) (flat_map delays_in entries)) sound refused)

-- ---- the whole

pub model_is : (library : Group) (name : List ℕ) (cell : Group) (model : TimedCell) → cell_group library name ≡ Some cell → All (IsSound library) unit_questions → IsModelOf library cell model → IsModel library name model
model_is library name cell model found sound is = record {
  group = cell;
  found = found;
  sound = All-append (IsSound library) unit_questions (cell_questions cell) sound is.sound;
  pins = is.pins;
  arcs = is.arcs;
}

pub refused_units : (library : Group) (name : List ℕ) (cell : Group) (fault : CellFault) → cell_group library name ≡ Some cell → IsRefusal library unit_questions fault → IsCellFault library name fault
refused_units library name cell fault found refused = fault_of found (refused_before unit_questions (cell_questions cell) refused)

pub refused_group : (library : Group) (name : List ℕ) (cell : Group) (fault : CellFault) → cell_group library name ≡ Some cell → All (IsSound library) unit_questions → IsRefusal library (cell_questions cell) fault → IsCellFault library name fault
refused_group library name cell fault found sound refused = fault_of found (refused_behind unit_questions (cell_questions cell) sound refused)

pub units_sound : (library : Group) (units : LibraryUnits) → AreUnits library units → All (IsSound library) unit_questions
units_sound library units known = All-cons (IsSound library) time_unit (load_unit ∷ []) (time_known known.time) (sound_one (load_known known.load))

-- the group of a cell, as it is found
pub found_group : (library outer : Group) (name bytes : List ℕ) (o : Option Group) → outer ≡ library → bytes ≡ name → o ≡ group_for (codes "cell") bytes outer → cell_group library name ≡ o
found_group library outer name bytes o same text found = ap (λ g. group_for (codes "cell") name g) (sym same) ∙ ap (λ t. group_for (codes "cell") t outer) (sym text) ∙ sym found
